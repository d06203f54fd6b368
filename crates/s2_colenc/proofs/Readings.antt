-- What is read is whole, and has as many values as were asked for.
use Rattle.std.proofs.Common.{◌≡◌, ℕ, ℤ, ◌*◌, Bool, true, false, not, nat_eq, List, [], ◌∷◌, length, sum, sym, ap, refl, ◌∙◌, subst, arith, Result, Ok, Err}
use Rattle.std.specs.List.{list_any}
use Rattle.std.proofs.lemmas.Bool.Decides.{nat_tests}
use Rattle.std.proofs.lemmas.List.{length-map}
use Rattle.s2_colbytes.specs.declared.ColErr.{ColErr}
use Rattle.s2_colbytes.specs.declared.ColErr.TheVariants.{Overflow, BadLength, NotText, BadCode, EmptyRun, BadRuns}
use Rattle.s2_colbytes.specs.Reading.{◌>>=◌, front_at, number_at, unless, alone}
use Rattle.s2_colbytes.specs.Numbers.{numbers, signed}
use Rattle.s2_colbytes.proofs.Lists.{length-numbers}
use Rattle.s2_colplain.specs.Ints.{ints_at, ints_in}
use Rattle.s2_colplain.specs.Packed.{packed_at, head_at, unpacked, packed_len, is_over}
use Rattle.s2_colplain.specs.Texts.{texts_at, cut_at, are_ends, last_end, are_texts}
use Rattle.s2_colplain.proofs.Fields.{length-unpacked}
use Rattle.s2_colplain.proofs.Cuts.{length-cut_at}
use Rattle.s2_colruns.specs.Codes.{codes_at, has_bad_code}
use Rattle.s2_colruns.specs.Runs.{lens_at, has_empty}
use Rattle.s2_value.specs.declared.values.Value.TheVariants.{Int, Text}
use Rattle.s2_value.specs.declared.values.ColType.{ColType}
use Rattle.s2_value.specs.declared.values.ColType.TheVariants as kind
use Rattle.s2_colenc.specs.declared.forms.Form.{Form}
use Rattle.s2_colenc.specs.declared.forms.Form.TheVariants as form
use Rattle.s2_colenc.specs.declared.views.Entries.{Entries}
use Rattle.s2_colenc.specs.declared.views.Entries.TheVariants as entries
use Rattle.s2_colenc.specs.declared.views.Body.{Body}
use Rattle.s2_colenc.specs.declared.views.Body.TheVariants as body
use Rattle.s2_colenc.specs.Column.{tag_at, entries_at, dictionary_at, runs_at, body_at, column_at, entry_values, values_of, is_whole}
use Rattle.s2_colenc.proofs.Runs.{length-repeated}

-- a reading that goes on was Ok so far
pub record Goes {A B : Type 0} (read : Result A ColErr) (f : A → Result B ColErr) (y : B) : Type 0 where
  pub first : A
  pub was : read ≡ Ok first
  pub later : f first ≡ Ok y

pub goes : {A B : Type 0} (read : Result A ColErr) (f : A → Result B ColErr) (y : B) → (read >>= f) ≡ Ok y → Goes read f y
goes (Ok x) f y h = record { first = x; was = refl; later = h }
goes (Err e) f y h = cc

pub passes : {X : Type 0} (wrong : Bool) (err : ColErr) (x y : X) → unless wrong err x ≡ Ok y → (wrong ≡ false) × (x ≡ y)
passes true err x y h = cc
passes false err x y h = (refl, cc)

pub ended : {X : Type 0} (x : X × List ℕ) (y : X) → alone x ≡ Ok y → x ≡ (y, [])
ended x y h = elim x.1 as (λ rest. alone (x.0, rest) ≡ Ok y → (x.0, rest) ≡ (y, [])) [
  | [] ↦ (λ e. cc)
  | b ∷ bs ↦ (λ e. cc)
] h

pub same_ok : {X : Type 0} (x y : X) → ◌≡◌ {A = Result X ColErr} (Ok x) (Ok y) → x ≡ y
same_ok x y h = cc

pub count_ints : (n : ℕ) (bytes : List ℕ) (x : List ℤ × List ℕ) → ints_at n bytes ≡ Ok x → length x.0 ≡ n
unfolding ints_at
count_ints n bytes x h =
    let g = goes (front_at (8 * n) bytes) (λ b. Ok (ints_in n b.0, b.1)) x h in
    ap (λ (y : List ℤ × List ℕ). length y.0) (sym (same_ok (ints_in n g.first.0, g.first.1) x g.later)) ∙ length-map (numbers 8 n g.first.0) signed ∙ length-numbers 8 n g.first.0

count_packed : (n : ℕ) (bytes : List ℕ) (x : List ℤ × List ℕ) → packed_at n bytes ≡ Ok x → length x.0 ≡ n
unfolding packed_at
count_packed n bytes x h =
    let head = goes (head_at bytes) _ x h in
    let body = goes (front_at (packed_len head.first.1 n) head.first.2) _ x head.later in
    let xs = unpacked head.first.0 head.first.1 n body.first.0 in
    let test = goes (unless (list_any is_over xs) Overflow xs) (λ ys. Ok (ys, body.first.1)) x body.later in
    let same = (passes (list_any is_over xs) Overflow xs test.first test.was).1 in
    ap (λ (y : List ℤ × List ℕ). length y.0) (sym (same_ok (test.first, body.first.1) x test.later)) ∙ ap (λ (ys : List ℤ). length ys) (sym same) ∙ length-unpacked head.first.0 head.first.1 _ 0 n

pub count_texts : (n : ℕ) (bytes : List ℕ) (x : List (List ℕ) × List ℕ) → texts_at n bytes ≡ Ok x → length x.0 ≡ n
unfolding texts_at
count_texts n bytes x h =
    let front = goes (front_at (4 * n) bytes) _ x h in
    let ends = numbers 4 n front.first.0 in
    let rising = goes (unless (not (are_ends 0 ends)) BadLength ends) _ x front.later in
    let body = goes (front_at (last_end 0 rising.first) front.first.1) _ x rising.later in
    let ts = cut_at 0 rising.first body.first.0 in
    let test = goes (unless (not (are_texts ts)) NotText ts) (λ us. Ok (us, body.first.1)) x body.later in
    let same = (passes (not (are_texts ts)) NotText ts test.first test.was).1 in
    let ends_are = (passes (not (are_ends 0 ends)) BadLength ends rising.first rising.was).1 in
    ap (λ (y : List (List ℕ) × List ℕ). length y.0) (sym (same_ok (test.first, body.first.1) x test.later)) ∙ ap (λ (us : List (List ℕ)). length us) (sym same)
    ∙ length-cut_at 0 rising.first body.first.0 ∙ ap (λ (es : List ℕ). length es) (sym ends_are) ∙ length-numbers 4 n front.first.0

pub count_entries : (kind : ColType) (n : ℕ) (bytes : List ℕ) (x : Entries × List ℕ) → entries_at kind n bytes ≡ Ok x → length (entry_values x.0) ≡ n
unfolding entries_at
count_entries kind.Int n bytes x h =
    let g = goes (ints_at n bytes) (λ y. Ok (entries.Ints y.0, y.1)) x h in
    ap (λ (y : Entries × List ℕ). length (entry_values y.0)) (sym (same_ok (entries.Ints g.first.0, g.first.1) x g.later)) ∙ length-map g.first.0 Int ∙ count_ints n bytes g.first g.was
count_entries kind.Text n bytes x h =
    let g = goes (texts_at n bytes) (λ y. Ok (entries.Texts y.0, y.1)) x h in
    ap (λ (y : Entries × List ℕ). length (entry_values y.0)) (sym (same_ok (entries.Texts g.first.0, g.first.1) x g.later)) ∙ length-map g.first.0 Text ∙ count_texts n bytes g.first g.was

-- codes that are read, each below d
pub record AreCodes (n d : ℕ) (codes : List ℕ) : Type 0 where
  pub many : length codes ≡ n
  pub below : has_bad_code d codes ≡ false

pub are_codes : (n d : ℕ) (bytes : List ℕ) (x : List ℕ × List ℕ) → codes_at n d bytes ≡ Ok x → AreCodes n d x.0
unfolding codes_at
are_codes n d bytes x h =
    let front = goes (front_at (2 * n) bytes) _ x h in
    let codes = numbers 2 n front.first.0 in
    let test = goes (unless (has_bad_code d codes) BadCode codes) (λ cs. Ok (cs, front.first.1)) x front.later in
    let good = passes (has_bad_code d codes) BadCode codes test.first test.was in
    let same : codes ≡ x.0 = good.1 ∙ ap (λ (y : List ℕ × List ℕ). y.0) (same_ok (test.first, front.first.1) x test.later) in
    record { many = ap (λ (cs : List ℕ). length cs) (sym same) ∙ length-numbers 2 n front.first.0; below = subst (λ (cs : List ℕ). has_bad_code d cs ≡ false) same good.0 }

-- run lengths that are read: none is 0, and they sum to n
pub record AreLens (n m : ℕ) (lens : List ℕ) : Type 0 where
  pub many : length lens ≡ m
  pub full : has_empty lens ≡ false
  pub total : sum lens ≡ n

pub are_lens : (n m : ℕ) (bytes : List ℕ) (x : List ℕ × List ℕ) → lens_at n m bytes ≡ Ok x → AreLens n m x.0
unfolding lens_at
are_lens n m bytes x h =
    let front = goes (front_at (2 * m) bytes) _ x h in
    let lens = numbers 2 m front.first.0 in
    let test = goes (unless (has_empty lens) EmptyRun lens) _ x front.later in
    let full = passes (has_empty lens) EmptyRun lens test.first test.was in
    let summed = goes (unless (not (nat_eq (sum test.first) n)) BadRuns test.first) (λ ls. Ok (ls, front.first.1)) x test.later in
    let right = passes (not (nat_eq (sum test.first) n)) BadRuns test.first summed.first summed.was in
    let same : lens ≡ x.0 = full.1 ∙ right.1 ∙ ap (λ (y : List ℕ × List ℕ). y.0) (same_ok (summed.first, front.first.1) x summed.later) in
    let total : sum test.first ≡ n = is_eq (sum test.first) n right.0 in
    record {
      many = ap (λ (ls : List ℕ). length ls) (sym same) ∙ length-numbers 2 m front.first.0;
      full = subst (λ (ls : List ℕ). has_empty ls ≡ false) same full.0;
      total = ap (λ (ls : List ℕ). sum ls) (sym same ∙ full.1) ∙ total;
    }
  where
    is_eq : (a b : ℕ) → not (nat_eq a b) ≡ false → a ≡ b
    is_eq a b h = grind (arith, nat_tests)

-- a body that is read
pub record IsRead (n : ℕ) (b : Body) : Type 0 where
  pub whole : is_whole b ≡ true
  pub many : length (values_of b) ≡ n

read_dictionary : (kind : ColType) (n : ℕ) (bytes : List ℕ) (x : Body × List ℕ) → dictionary_at kind n bytes ≡ Ok x → IsRead n x.0
unfolding dictionary_at
read_dictionary kind n bytes x h =
    let head = goes (number_at 4 bytes) _ x h in
    let dict = goes (entries_at kind head.first.0 head.first.1) _ x head.later in
    let codes = goes (codes_at n head.first.0 dict.first.1) (λ cs. Ok (body.Dictionary dict.first.0 cs.0, cs.1)) x dict.later in
    let many = count_entries kind head.first.0 head.first.1 dict.first dict.was in
    let are = are_codes n head.first.0 dict.first.1 codes.first codes.was in
    let same : body.Dictionary dict.first.0 codes.first.0 ≡ x.0 = ap (λ (y : Body × List ℕ). y.0) (same_ok (body.Dictionary dict.first.0 codes.first.0, codes.first.1) x codes.later) in
    let whole : not (has_bad_code (length (entry_values dict.first.0)) codes.first.0) ≡ true = ap (λ (d : ℕ). not (has_bad_code d codes.first.0)) many ∙ ap not are.below in
    subst (IsRead n) same (record { whole = whole; many = length-map codes.first.0 _ ∙ are.many })

read_runs : (kind : ColType) (n : ℕ) (bytes : List ℕ) (x : Body × List ℕ) → runs_at kind n bytes ≡ Ok x → IsRead n x.0
unfolding runs_at
read_runs kind n bytes x h =
    let head = goes (number_at 4 bytes) _ x h in
    let lens = goes (lens_at n head.first.0 head.first.1) _ x head.later in
    let vals = goes (entries_at kind head.first.0 lens.first.1) (λ vs. Ok (body.Runs lens.first.0 vs.0, vs.1)) x lens.later in
    let many = count_entries kind head.first.0 lens.first.1 vals.first vals.was in
    let are = are_lens n head.first.0 head.first.1 lens.first lens.was in
    let same : body.Runs lens.first.0 vals.first.0 ≡ x.0 = ap (λ (y : Body × List ℕ). y.0) (same_ok (body.Runs lens.first.0 vals.first.0, vals.first.1) x vals.later) in
    let each : length lens.first.0 ≡ length (entry_values vals.first.0) = are.many ∙ sym many in
    subst (IsRead n) same (record { whole = eq_true _ _ each; many = length-repeated lens.first.0 (entry_values vals.first.0) each ∙ are.total })
  where
    eq_true : (a b : ℕ) → a ≡ b → nat_eq a b ≡ true
    eq_true a b e = grind (arith, nat_tests)

read_body : (kind : ColType) (n : ℕ) (f : Form) (bytes : List ℕ) (x : Body × List ℕ) → body_at kind n f bytes ≡ Ok x → IsRead n x.0
unfolding body_at
read_body kind n form.PlainInt bytes x h =
    let g = goes (ints_at n bytes) (λ y. Ok (body.Ints y.0, y.1)) x h in
    let same : body.Ints g.first.0 ≡ x.0 = ap (λ (y : Body × List ℕ). y.0) (same_ok (body.Ints g.first.0, g.first.1) x g.later) in
    subst (IsRead n) same (record { whole = refl; many = length-map g.first.0 Int ∙ count_ints n bytes g.first g.was })
read_body kind n form.PackedInt bytes x h =
    let g = goes (packed_at n bytes) (λ y. Ok (body.Packed y.0, y.1)) x h in
    let same : body.Packed g.first.0 ≡ x.0 = ap (λ (y : Body × List ℕ). y.0) (same_ok (body.Packed g.first.0, g.first.1) x g.later) in
    subst (IsRead n) same (record { whole = refl; many = length-map g.first.0 Int ∙ count_packed n bytes g.first g.was })
read_body kind n form.PlainText bytes x h =
    let g = goes (texts_at n bytes) (λ y. Ok (body.Texts y.0, y.1)) x h in
    let same : body.Texts g.first.0 ≡ x.0 = ap (λ (y : Body × List ℕ). y.0) (same_ok (body.Texts g.first.0, g.first.1) x g.later) in
    subst (IsRead n) same (record { whole = refl; many = length-map g.first.0 Text ∙ count_texts n bytes g.first g.was })
read_body kind n form.Dictionary bytes x h = read_dictionary kind n bytes x h
read_body kind n form.Runs bytes x h = read_runs kind n bytes x h

-- whatever is read is whole and of n values
pub column_read : (kind : ColType) (n : ℕ) (bytes : List ℕ) (b : Body) → column_at kind n bytes ≡ Ok b → IsRead n b
unfolding column_at
column_read kind n bytes b h =
    let head = goes (tag_at kind bytes) _ b h in
    let read = goes (body_at kind n head.first.0 head.first.1) alone b head.later in
    let same : read.first ≡ (b, []) = ended read.first b read.later in
    read_body kind n head.first.0 head.first.1 (b, []) (read.was ∙ ap Ok same)
