use Rattle.std.specs.Prelude.{ℕ, length}
use Rattle.sulgheddo.specs.declared.words.Words.{Words}

-- how many bytes of a line come after the words that were read
abbrev pub unread : Words → ℕ
unread w = length w.rest.now
