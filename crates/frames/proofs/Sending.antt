-- What is sent is what is received.
use Rattle.std.proofs.Common.{◌≡◌, ℕ, ◌≤◌, List, ◌++◌, length, take, sym, refl, ap, ◌∙◌, subst, arith}
use Rattle.std.proofs.lemmas.List.{length-append, length-take-le, take_at}
use Rattle.units.specs.Code.{Code, CodeLaws}
use Rattle.deltas.specs.declared.instruction.Instruction.{Instruction}
use Rattle.deltas.specs.Check.{Parts, parts, instructions_of, units_of, own}
use Rattle.deltas.specs.Origins.{origins, applied}
use Rattle.deltas.proofs.Sound.{passed, lawful, passed_too}
use Rattle.combining.specs.Normal.{Longest, Normal}
use Rattle.frames.specs.Distribution.{Same, Distribution}
use Rattle.frames.proofs.RoundTrips.{delta_again}

-- the front of a list is its front again, whatever stands behind it, and no shorter
front : {A : Type 0} (n : ℕ) (xs rest : List A) → n ≤ length xs → (take n (take n xs ++ rest) ≡ take n xs) × (n ≤ length (take n xs ++ rest))
front n xs rest l =
    let long = length-take-le n xs l in
    (take_at (take n xs) rest n long, rw length-append (omega arith))

-- a normal delta is the same delta in tables of its own entries and any others
same_behind : {U : Type 0} (d : Parts U) → Normal d → (rest : List Instruction) (others : List U) → Same d (parts d.head (instructions_of d ++ rest) (units_of d ++ others))
same_behind {U} d n rest others =
    let p = passed d n.0 in
    let i = front d.head.instructions d.table rest p.instructions in
    let u = front d.head.inserted d.units others p.inserted in
    let e : Parts U = parts d.head (instructions_of d ++ rest) (units_of d ++ others) in
    record {
      head = refl;
      instructions = i.0;
      units = u.0;
      is_normal = (lawful e (passed_too d e.table e.units p i.0 i.1 u.1), subst Longest (sym i.0) n.1);
      applies = λ x source. ap (λ is. applied x source (origins (units_of e) is)) i.0 ∙ ap (λ us. applied x source (origins us (instructions_of d))) u.0;
    }

pub distribution : {U : Type 0} {kind width : ℕ} (c : Code U kind width) → CodeLaws c → Distribution c
distribution c k d n fit = record { read = own d; is_read = delta_again c k d n.0 fit.0 fit.1; same = same_behind d n }
