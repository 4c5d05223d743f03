use Rattle.std.specs.Prelude.{◌≡◌, ℕ, ◌<◌, ◌≤◌, Bool, true, false, List, length, slice_index_or}

-- the first n entries are one run: the first of them is v, the others equal it, and the entry after them does not
pub record Front {T : Type 0} (equals : T → T → Bool → Type 0) (es : List T) (v : T) (n : ℕ) : Type 0 where
  pub first : v ≡ slice_index_or es 0 v
  pub some : 0 < n
  pub within : n ≤ length es
  pub alike : (k : ℕ) → 0 < k → k < n → equals (slice_index_or es k v) v true
  pub stops : n < length es → equals (slice_index_or es n v) v false
