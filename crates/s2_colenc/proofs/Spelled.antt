-- What is spelled is read.
use Rattle.std.proofs.Common.{◌≡◌, ℕ, ℤ, ◌<◌, false, List, [], ◌∷◌, ◌++◌, length, sym, ap, refl, ◌∙◌, Result, Ok}
use Rattle.std.specs.List.{AllByRecursion}
use Rattle.std.proofs.lemmas.List.{length-map, append-nil}
use Rattle.byteorder.specs.Endian.{little_bytes}
use Rattle.s2_colbytes.specs.declared.ColErr.{ColErr}
use Rattle.s2_colbytes.specs.Reading.{◌>>=◌}
use Rattle.s2_colbytes.specs.Numbers.{spelled, int_bytes}
use Rattle.s2_colplain.specs.Ints.{ints_at, plain_ints}
use Rattle.s2_colplain.specs.Packed.{packed_at, unpacked}
use Rattle.s2_colplain.specs.Texts.{texts_at, plain_texts}
use Rattle.s2_colplain.proofs.Fields.{length-unpacked}
use Rattle.s2_colruns.specs.Codes.{codes_at, has_bad_code}
use Rattle.s2_colruns.specs.Runs.{lens_at}
use Rattle.s2_colruns.specs.Dictionary.{decoded}
use Rattle.s2_value.specs.declared.values.Value.{Value}
use Rattle.s2_value.specs.declared.values.Value.TheVariants.{Int, Text}
use Rattle.s2_value.specs.declared.values.ColType.{ColType}
use Rattle.s2_value.specs.declared.values.ColType.TheVariants as kind
use Rattle.s2_colenc.specs.declared.forms.Form.{Form}
use Rattle.s2_colenc.specs.declared.forms.Form.TheVariants as form
use Rattle.s2_colenc.specs.declared.views.Entries.{Entries}
use Rattle.s2_colenc.specs.declared.views.Entries.TheVariants as entries
use Rattle.s2_colenc.specs.declared.views.Body.{Body}
use Rattle.s2_colenc.specs.declared.views.Body.TheVariants as body
use Rattle.s2_colenc.specs.Column.{form_of, tag_at, entries_at, dictionary_at, runs_at, body_at, column_at, entry_values, values_of, repeated}
use Rattle.s2_colenc.specs.Spells.{ReadAs, SpellsEntries, ints, texts, Spells, plain_int, packed_int, plain_text, dictionary, runs}
use Rattle.s2_colenc.proofs.Runs.{length-repeated}
use Rattle.s2_colenc.proofs.Parts.{ints_read, texts_read, codes_read, lens_read, packed_read, number_is}

-- the values of a plain body, before other bytes
pub record EntriesRead (kind : ColType) (vals : List Value) (body : List ℕ) : Type 0 where
  pub view : Entries
  pub read : (rest : List ℕ) → entries_at kind (length vals) (body ++ rest) ≡ Ok (view, rest)
  pub values : entry_values view ≡ vals

pub entries_read : {kind : ColType} {vals : List Value} {body : List ℕ} → SpellsEntries kind vals body → EntriesRead kind vals body
unfolding entries_at
entries_read (ints xs h) = record {
  view = entries.Ints xs;
  read = λ rest. ap (λ (n : ℕ). ints_at n (plain_ints xs ++ rest) >>= (λ y. Ok (entries.Ints y.0, y.1))) (length-map xs Int) ∙ rw (ints_read xs rest h) refl;
  values = refl;
}
entries_read (texts ts h l) = record {
  view = entries.Texts ts;
  read = λ rest. ap (λ (n : ℕ). texts_at n (plain_texts ts ++ rest) >>= (λ y. Ok (entries.Texts y.0, y.1))) (length-map ts Text) ∙ rw (texts_read ts rest h l) refl;
  values = refl;
}

block_is : (kind : ColType) (n tag : ℕ) (f : Form) (bytes : List ℕ) (b : Body) → form_of kind tag ≡ Ok f → body_at kind n f bytes ≡ Ok (b, []) → column_at kind n (tag ∷ bytes) ≡ Ok b
unfolding column_at tag_at
block_is kind n tag f bytes b e h = rw (e, h) refl

ints_body : (xs : List ℤ) (bytes : List ℕ) → ints_at (length xs) bytes ≡ Ok (xs, []) → body_at kind.Int (length xs) form.PlainInt bytes ≡ Ok (body.Ints xs, [])
unfolding body_at
ints_body xs bytes h = rw h refl

texts_body : (ts : List (List ℕ)) (bytes : List ℕ) → texts_at (length ts) bytes ≡ Ok (ts, []) → body_at kind.Text (length ts) form.PlainText bytes ≡ Ok (body.Texts ts, [])
unfolding body_at
texts_body ts bytes h = rw h refl

packed_body : (xs : List ℤ) (n : ℕ) (bytes : List ℕ) → packed_at n bytes ≡ Ok (xs, []) → body_at kind.Int n form.PackedInt bytes ≡ Ok (body.Packed xs, [])
unfolding body_at
packed_body xs n bytes h = rw h refl

dictionary_body : (kind : ColType) (dict : List Value) (entry codes : List ℕ) → EntriesRead kind dict entry → length dict < 4294967296 → has_bad_code (length dict) codes ≡ false → AllByRecursion (λ c. c < 65536) codes → (b : Entries) × ((body_at kind (length codes) form.Dictionary (little_bytes 4 (length dict) ++ (entry ++ spelled 2 codes)) ≡ Ok (body.Dictionary b codes, [])) × (entry_values b ≡ dict))
unfolding body_at dictionary_at
dictionary_body kind dict entry codes r l g h =
    let last : codes_at (length codes) (length dict) (spelled 2 codes) ≡ Ok (codes, []) = ap (codes_at (length codes) (length dict)) (sym (append-nil (spelled 2 codes))) ∙ codes_read (length dict) codes [] h g in
    (r.view, (rw (number_is 4 (length dict) (entry ++ spelled 2 codes) l, r.read (spelled 2 codes), last) refl, r.values))

runs_body : (kind : ColType) (lens : List ℕ) (vals : List Value) (entry : List ℕ) (n : ℕ) → EntriesRead kind vals entry → length lens ≡ length vals → length lens < 4294967296 → lens_at n (length lens) (spelled 2 lens ++ entry) ≡ Ok (lens, entry) → (b : Entries) × ((body_at kind n form.Runs (little_bytes 4 (length lens) ++ (spelled 2 lens ++ entry)) ≡ Ok (body.Runs lens b, [])) × (entry_values b ≡ vals))
unfolding body_at runs_at
runs_body kind lens vals entry n r e l h =
    let last : entries_at kind (length lens) entry ≡ Ok (r.view, []) = ap (λ (k : ℕ). entries_at kind k entry) e ∙ ap (entries_at kind (length vals)) (sym (append-nil entry)) ∙ r.read [] in
    (r.view, (rw (number_is 4 (length lens) (spelled 2 lens ++ entry) l, h, last) refl, r.values))

both_dictionary : (kind : ColType) → form_of kind 3 ≡ Ok form.Dictionary
both_dictionary kind.Int = refl
both_dictionary kind.Text = refl

both_runs : (kind : ColType) → form_of kind 4 ≡ Ok form.Runs
both_runs kind.Int = refl
both_runs kind.Text = refl

plain_ints_read : (vals : List Value) (bytes : List ℕ) → SpellsEntries kind.Int vals bytes → ReadAs kind.Int vals (0 ∷ bytes)
plain_ints_read vals bytes (ints xs h) =
    let all : ints_at (length xs) (plain_ints xs) ≡ Ok (xs, []) = ap (ints_at (length xs)) (sym (append-nil (plain_ints xs))) ∙ ints_read xs [] h in
    record {
      view = body.Ints xs;
      read = ap (λ (n : ℕ). column_at kind.Int n (0 ∷ plain_ints xs)) (length-map xs Int) ∙ block_is kind.Int (length xs) 0 form.PlainInt (plain_ints xs) (body.Ints xs) refl (ints_body xs (plain_ints xs) all);
      values = refl;
    }

plain_texts_read : (vals : List Value) (bytes : List ℕ) → SpellsEntries kind.Text vals bytes → ReadAs kind.Text vals (2 ∷ bytes)
plain_texts_read vals bytes (texts ts h l) =
    let all : texts_at (length ts) (plain_texts ts) ≡ Ok (ts, []) = ap (texts_at (length ts)) (sym (append-nil (plain_texts ts))) ∙ texts_read ts [] h l in
    record {
      view = body.Texts ts;
      read = ap (λ (n : ℕ). column_at kind.Text n (2 ∷ plain_texts ts)) (length-map ts Text) ∙ block_is kind.Text (length ts) 2 form.PlainText (plain_texts ts) (body.Texts ts) refl (texts_body ts (plain_texts ts) all);
      values = refl;
    }

pub spelled_is_read : {kind : ColType} {vals : List Value} {bytes : List ℕ} → Spells kind vals bytes → ReadAs kind vals bytes
spelled_is_read (plain_int vals bytes s) = plain_ints_read vals bytes s
spelled_is_read (packed_int base width n bits p w l o) =
    let xs : List ℤ = unpacked base width n bits in
    let all : packed_at n (int_bytes base ++ width ∷ bits) ≡ Ok (xs, []) = ap (packed_at n) (sym (append-nil (int_bytes base ++ width ∷ bits))) ∙ packed_read base width n bits [] p w l o in
    record {
      view = body.Packed xs;
      read = ap (λ (k : ℕ). column_at kind.Int k (1 ∷ (int_bytes base ++ width ∷ bits))) (length-map xs Int ∙ length-unpacked base width _ 0 n) ∙ block_is kind.Int n 1 form.PackedInt (int_bytes base ++ width ∷ bits) (body.Packed xs) refl (packed_body xs n (int_bytes base ++ width ∷ bits) all);
      values = refl;
    }
spelled_is_read (plain_text vals bytes s) = plain_texts_read vals bytes s
spelled_is_read (dictionary kind dict entry codes s l g h) =
    let d = dictionary_body kind dict entry codes (entries_read s) l g h in
    let bytes : List ℕ = little_bytes 4 (length dict) ++ (entry ++ spelled 2 codes) in
    record {
      view = body.Dictionary d.0 codes;
      read = ap (λ (k : ℕ). column_at kind k (3 ∷ bytes)) (length-map codes _) ∙ block_is kind (length codes) 3 form.Dictionary bytes (body.Dictionary d.0 codes) (both_dictionary kind) d.1.0;
      values = ap (λ (vs : List Value). decoded vs codes) d.1.1;
    }
spelled_is_read (runs kind lens vals entry s e l f h) =
    let n : ℕ = length (repeated lens vals) in
    let d = runs_body kind lens vals entry n (entries_read s) e l (lens_read lens entry n (length lens) h f (sym (length-repeated lens vals e)) refl) in
    let bytes : List ℕ = little_bytes 4 (length lens) ++ (spelled 2 lens ++ entry) in
    record {
      view = body.Runs lens d.0;
      read = block_is kind n 4 form.Runs bytes (body.Runs lens d.0) (both_runs kind) d.1.0;
      values = ap (repeated lens) d.1.1;
    }

-- one text spells at most one list of as many values
pub one_list : (kind : ColType) (vals others : List Value) (bytes : List ℕ) → Spells kind vals bytes → Spells kind others bytes → length vals ≡ length others → vals ≡ others
one_list kind vals others bytes s t e =
    let a = spelled_is_read s in
    let b = spelled_is_read t in
    let same : a.view ≡ b.view = same_ok a.view b.view (sym a.read ∙ ap (λ (n : ℕ). column_at kind n bytes) e ∙ b.read) in
    sym a.values ∙ ap values_of same ∙ b.values
  where
    same_ok : (x y : Body) → ◌≡◌ {A = Result Body ColErr} (Ok x) (Ok y) → x ≡ y
    same_ok x y p = cc
