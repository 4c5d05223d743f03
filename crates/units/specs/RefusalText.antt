-- How a refusal is printed.
use Rattle.std.specs.Prelude.{ℕ, List, ◌++◌, codes, decimal}
use Rattle.units.specs.declared.refusal.Layer.{Layer}
use Rattle.units.specs.declared.refusal.Layer.TheVariants.{Frame, Delta, Pair, Ground, Chain}
use Rattle.units.specs.declared.refusal.Refusal.{Refusal}

-- the word of a layer
abbrev pub layer_word : Layer → List ℕ
layer_word Frame = codes "frame"
layer_word Delta = codes "delta"
layer_word Pair = codes "pair"
layer_word Ground = codes "ground"
layer_word Chain = codes "chain"

-- refused NUMBER at PLACE (LAYER)
abbrev pub refusal_text : Refusal → List ℕ
refusal_text r =
    codes "refused " ++ (decimal r.number ++ (codes " at " ++ (decimal r.place ++ (codes " (" ++ (layer_word r.layer ++ codes ")")))))
