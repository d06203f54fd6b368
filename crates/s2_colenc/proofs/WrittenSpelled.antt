-- What is written spells the values.
use Rattle.std.proofs.Common.{◌≡◌, ℕ, ℤ, ◌*◌, ◌<◌, ◌≤◌, FitsSigned, true, List, [], ◌∷◌, ◌++◌, length, map, sym, ap, refl, ◌∙◌, subst, arith}
use Rattle.std.specs.Int.{w64}
use Rattle.std.specs.List.{list_all, concat, AllByRecursion}
use Rattle.std.proofs.lemmas.List.{length-append, length-map}
use Rattle.byteorder.specs.Endian.{little_bytes}
use Rattle.s2_colbytes.specs.Numbers.{spelled}
use Rattle.s2_colplain.specs.Ints.{plain_ints}
use Rattle.s2_colplain.specs.Packed.{spread, digits, of_rank, least_rank, field_bytes}
use Rattle.s2_colplain.specs.Texts.{plain_texts, text_of}
use Rattle.s2_colruns.specs.Dictionary.{dictionary_of}
use Rattle.s2_value.specs.Text.{is_txt}
use Rattle.s2_value.specs.Rows.{is_of}
use Rattle.s2_value.specs.declared.values.Value.{Value}
use Rattle.s2_value.specs.declared.values.Value.TheVariants.{Int, Text}
use Rattle.s2_value.specs.declared.values.ColType.{ColType}
use Rattle.s2_value.specs.declared.values.ColType.TheVariants as kind
use Rattle.s2_colenc.specs.declared.forms.Form.{Form}
use Rattle.s2_colenc.specs.declared.forms.Form.TheVariants as form
use Rattle.s2_colenc.specs.Column.{repeated}
use Rattle.s2_colenc.specs.Written.{int_of, entry_bytes, place_of, runs_of, run_values, run_lengths, dictionary_bytes, runs_bytes, form_bytes, may_take, IsBlock}
use Rattle.s2_colenc.specs.Spells.{IsValue, AreValues, SpellsEntries, ints, texts, Spells, plain_int, packed_int, plain_text, dictionary, runs}
use Rattle.s2_colenc.proofs.Lengths.{and_true, all_dictionary, all_runs}
use Rattle.s2_colenc.proofs.Numbering.{few_all}
use Rattle.s2_colenc.proofs.Choice.{packs}
use Rattle.s2_colenc.proofs.Parts.{text_is}
use Rattle.s2_colenc.proofs.Unpacked as unpacked
use Rattle.s2_colenc.proofs.Members.{coded_all, runs_back, Below, each_of_dictionary, each_of_runs}

cons_is : {a b : Value} {xs ys : List Value} → a ≡ b → xs ≡ ys → a ∷ xs ≡ b ∷ ys
cons_is p q = cc

ints_same : (vals : List Value) → list_all (is_of kind.Int) vals ≡ true → map Int (map int_of vals) ≡ vals
ints_same [] h = refl
ints_same (Int x ∷ vals) h = cons_is refl (ints_same vals h)
ints_same (Text t ∷ vals) h = cc

ints_fit : (vals : List Value) → list_all (is_of kind.Int) vals ≡ true → AllByRecursion IsValue vals → AllByRecursion (FitsSigned w64) (map int_of vals)
ints_fit [] h v = tt
ints_fit (Int x ∷ vals) h v = (v.0, ints_fit vals h v.1)
ints_fit (Text t ∷ vals) h v = cc

texts_same : (vals : List Value) → list_all (is_of kind.Text) vals ≡ true → map Text (map text_of vals) ≡ vals
texts_same [] h = refl
texts_same (Int x ∷ vals) h = cc
texts_same (Text t ∷ vals) h = cons_is refl (texts_same vals h)

texts_valid : (vals : List Value) → list_all (is_of kind.Text) vals ≡ true → AllByRecursion IsValue vals → list_all is_txt (map text_of vals) ≡ true
texts_valid [] h v = refl
texts_valid (Int x ∷ vals) h v = cc
texts_valid (Text t ∷ vals) h v = rw v.0 (texts_valid vals h v.1)

texts_short : (ts : List (List ℕ)) → list_all is_txt ts ≡ true → length (concat ts) ≤ 255 * length ts
texts_short [] h = omega arith
texts_short (t ∷ ts) h =
    let both = and_true (is_txt t) (list_all is_txt ts) h in
    let short = (text_is t both.0).short in
    let r = texts_short ts both.1 in
    let l = length-append t (concat ts) in
    omega arith

entries_spelled : (kind : ColType) (vals : List Value) → list_all (is_of kind) vals ≡ true → AllByRecursion IsValue vals → length vals ≤ 8192 → SpellsEntries kind vals (entry_bytes kind vals)
entries_spelled kind.Int vals h v l = subst (λ (vs : List Value). SpellsEntries kind.Int vs (plain_ints (map int_of vals))) (ints_same vals h) (ints (map int_of vals) (ints_fit vals h v))
entries_spelled kind.Text vals h v l =
    let valid = texts_valid vals h v in
    let short = texts_short (map text_of vals) valid in
    let many = length-map vals text_of in
    let few : length (concat (map text_of vals)) < 4294967296 = omega arith in
    subst (λ (vs : List Value). SpellsEntries kind.Text vs (plain_texts (map text_of vals))) (texts_same vals h) (texts (map text_of vals) valid few)

packed_spelled : (vals : List Value) → AreValues kind.Int vals → spread (map int_of vals) < 9223372036854775808 → Spells kind.Int vals (form_bytes kind.Int vals form.PackedInt)
packed_spelled vals a s =
    let xs : List ℤ = map int_of vals in
    let len : length (map int_of vals) ≡ length vals = length-map vals int_of in
    let some = a.some in
    let p = unpacked.packs (map int_of vals) (omega arith) (ints_fit vals a.type a.values) s in
    subst (λ (vs : List Value). Spells kind.Int vs (form_bytes kind.Int vals form.PackedInt)) (ap (map Int) p.back ∙ ints_same vals a.type)
    (packed_int (of_rank (least_rank xs)) (digits (spread xs)) (length xs) (field_bytes (least_rank xs) (digits (spread xs)) xs) p.base p.narrow p.whole p.none)

dictionary_spelled : (kind : ColType) (vals : List Value) → AreValues kind vals → Spells kind vals (form_bytes kind vals form.Dictionary)
unfolding dictionary_bytes
dictionary_spelled kind vals a =
    let dict : List Value = dictionary_of vals in
    let fewer = few_all vals in
    let few = a.few in
    let c = coded_all vals (omega arith) in
    subst (λ (vs : List Value). Spells kind vs (form_bytes kind vals form.Dictionary)) c.back
    (dictionary kind dict (entry_bytes kind dict) (map (place_of dict) vals) (entries_spelled kind dict (all_dictionary (is_of kind) vals a.type) (each_of_dictionary IsValue vals a.values) (omega arith)) (omega arith) c.below c.fit)

lengths_fit : (n : ℕ) (rs : List (Value × ℕ)) → n ≤ 8192 → Below n rs → AllByRecursion (λ l. l < 65536) (run_lengths rs)
lengths_fit n [] l h = tt
lengths_fit n (r ∷ rs) l h = (let a = h.0 in omega arith, lengths_fit n rs l h.1)

runs_spelled : (kind : ColType) (vals : List Value) → AreValues kind vals → Spells kind vals (form_bytes kind vals form.Runs)
unfolding runs_bytes
runs_spelled kind vals a =
    let rs : List (Value × ℕ) = runs_of vals in
    let r = runs_back vals in
    let few = a.few in
    let fewer = r.few in
    let lens = length-map (runs_of vals) (λ (run : Value × ℕ). run.1) in
    let heads = length-map (runs_of vals) (λ (run : Value × ℕ). run.0) in
    let count : little_bytes 4 (length (run_lengths rs)) ≡ little_bytes 4 (length rs) = ap (little_bytes 4) lens in
    let s : Spells kind (repeated (run_lengths rs) (run_values rs)) (4 ∷ (little_bytes 4 (length (run_lengths rs)) ++ (spelled 2 (run_lengths rs) ++ entry_bytes kind (run_values rs)))) =
    runs kind (run_lengths rs) (run_values rs) (entry_bytes kind (run_values rs)) (entries_spelled kind (run_values rs) (all_runs (is_of kind) vals a.type) (each_of_runs IsValue vals a.values) (omega arith)) (lens ∙ sym heads) (omega arith) r.full (lengths_fit (length vals) rs few r.long) in
    subst (λ (vs : List Value). Spells kind vs (form_bytes kind vals form.Runs)) r.back (subst (λ (bs : List ℕ). Spells kind (repeated (run_lengths rs) (run_values rs)) (4 ∷ (bs ++ (spelled 2 (run_lengths rs) ++ entry_bytes kind (run_values rs))))) count s)

form_spelled : (kind : ColType) (vals : List Value) (f : Form) → AreValues kind vals → may_take kind vals f ≡ true → Spells kind vals (form_bytes kind vals f)
form_spelled kind.Int vals form.PlainInt a m = plain_int vals (entry_bytes kind.Int vals) (entries_spelled kind.Int vals a.type a.values a.few)
form_spelled kind.Text vals form.PlainInt a m = cc
form_spelled kind.Int vals form.PackedInt a m = packed_spelled vals a (packs kind.Int vals m)
form_spelled kind.Text vals form.PackedInt a m = cc
form_spelled kind.Int vals form.PlainText a m = cc
form_spelled kind.Text vals form.PlainText a m = plain_text vals (entry_bytes kind.Text vals) (entries_spelled kind.Text vals a.type a.values a.few)
form_spelled kind vals form.Dictionary a m = dictionary_spelled kind vals a
form_spelled kind vals form.Runs a m = runs_spelled kind vals a

pub written_is_spelled : (kind : ColType) (vals : List Value) (bytes : List ℕ) → AreValues kind vals → IsBlock kind vals bytes → Spells kind vals bytes
written_is_spelled kind vals bytes a b = subst (Spells kind vals) (sym b.same) (form_spelled kind vals b.form a b.shortest.allowed)
