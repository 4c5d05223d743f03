use Rattle.std.proofs.Common.{◌≡◌, ◌-◌, ◌≤◌, length, replicate}
use lib.Seq.{paste}
use Rattle.deltas.proofs.table.blank_rest.Given as goal

-- blanks stand behind the first entries, as many as there were turns
abbrev pub invariant-loop-i : goal.invariant-loop-i
invariant-loop-i g l =
    (l.table ≡ paste l.initial.table l.count (replicate (l.i - l.count) l.blank) (l.i - l.count))
    × (l.count ≤ l.i)
    × (l.i - l.count ≤ length l.initial.table - l.count)
