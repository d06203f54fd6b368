-- Which rows the notes of a key name.
use Rattle.std.proofs.Common.{◌≡◌, ◌∙◌, refl, sym, ap, ℕ, ◌<◌, zero, suc, Bool, true, false, List, [], ◌∷◌, Option, length, slice_index_or, arith}
use Rattle.std.specs.Map.{lookup}
use Rattle.std.specs.BTreeMap.{BTreeMap, is_at}
use Rattle.std.proofs.lemmas.Bool.{false≢true}
use Rattle.s2_value.specs.declared.values.Value.{Value}
use Rattle.s2_value.specs.declared.schemas.Schema.{Schema}
use Rattle.s2_value.specs.Schemas.{keys_of}
use Rattle.s2_value.specs.Order.{row_cmp}
use Rattle.s2_rowstore.specs.Chains.{Line}
use Rattle.s2_rowstore.specs.Lines.{body_at}
use Rattle.s2_rowstore.specs.Keys.{has_id, is_noted, noted_at, body_has}
use Rattle.s2_rowstore.specs.Store.{IsPosted, places_of}

notes_get : (xs : List (BTreeMap (List Value) (List ℕ))) (j : ℕ) (d : BTreeMap (List Value) (List ℕ)) (q : List Value) (n : ℕ) → j < length xs → noted_at xs j q n ≡ is_noted (slice_index_or xs j d).entries q n
notes_get [] j d q n lt = absurd (omega arith)
notes_get (x ∷ xs) zero d q n lt = refl
notes_get (x ∷ xs) (suc j) d q n lt = notes_get xs j d q n (omega arith)

-- a row that has the key is among those noted for it
pub named : (schema : Schema) (notes : List (BTreeMap (List Value) (List ℕ))) (lines : List (ℕ × Line)) (m : BTreeMap (List Value) (List ℕ)) (j : ℕ) (q : List Value) (n : ℕ) (found : Option (List ℕ))
    → IsPosted schema notes lines → j < length (keys_of schema) → length notes ≡ length (keys_of schema) → m ≡ slice_index_or notes j m → found ≡ lookup (is_at (row_cmp q)) m.entries
    → body_has (places_of schema j) q (body_at lines n) ≡ true → has_id n found ≡ true
named schema notes lines m j q n found posted lt all is at has =
    let F : BTreeMap (List Value) (List ℕ) → Bool = λ m. is_noted m.entries q n in
    ap (has_id n) at ∙ ap F is ∙ sym (notes_get notes j m q n (omega arith)) ∙ posted j q n lt has

pub not_had : (b : Bool) → (b ≡ true → false ≡ true) → false ≡ b
not_had true c = absurd (false≢true (c refl))
not_had false c = refl
