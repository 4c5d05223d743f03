use Rattle.std.specs.Prelude.{◌≡◌, ◌≢◌, ℕ, List, codes, Result, MatchResult}
use Rattle.sulgheddo.specs.declared.client.Client.{Client}
use Rattle.sulgheddo.specs.declared.client.Client.TheVariants.{Bytes, Cashflows}
use Rattle.sulgheddo.specs.declared.command.Kind.{Kind}
use Rattle.sulgheddo.specs.declared.command.Kind.TheVariants.{Byte, Cashflow}
use Rattle.sulgheddo.specs.declared.session.Kept.{Kept}

-- the word that names a kind of unit in a list
abbrev pub kind_word : Kind → List ℕ
kind_word Byte = codes "byte"
kind_word Cashflow = codes "cashflow"

-- what a word says as a kind of unit: the kind that it names, or an error, and then it names none
abbrev pub NamesKind : {E : Type 0} → List ℕ → Result Kind E → Type 0
NamesKind text result = MatchResult result (λ kind. text ≡ kind_word kind) (λ _. (kind : Kind) → text ≢ kind_word kind)

-- the kind of unit that a client works with
abbrev pub kind_of : Client → Kind
kind_of (Bytes s) = Byte
kind_of (Cashflows s) = Cashflow

-- what a list begins with
abbrev pub kept_at_first : Kept
kept_at_first = record {
  tally = record { accepted = 0; refused = 0 };
  sizes = record { instructions = 65535; units = 65535 };
}

-- what a client keeps when it changes to another kind
abbrev pub kept_of : Client → Kept
kept_of (Bytes s) = s.kept
kept_of (Cashflows s) = s.kept
