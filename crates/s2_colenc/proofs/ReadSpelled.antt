-- What is read is spelled.
use Rattle.std.proofs.Common.{◌≡◌, ℕ, ℤ, ◌+◌, ◌-◌, ◌*◌, ◌^◌, ◌<◌, ◌≤◌, FitsSigned, Bool, true, false, not, nat_lt, nat_le, nat_eq, cond, List, [], ◌∷◌, ◌++◌, length, get_or, take, drop, map, sum, sym, ap, refl, ◌∙◌, subst, arith, Result, Ok, Err}
use Rattle.std.specs.Int.{w64}
use Rattle.std.specs.List.{list_all, list_any, concat, AllByRecursion}
use Rattle.std.proofs.lemmas.Bool.Decides.{nat_tests}
use Rattle.std.proofs.lemmas.Int.{of_z-to_z, ints}
use Rattle.std.proofs.lemmas.List.{append-nil, append_assoc, take-append-drop, take_all, take_more, length-take-le}
use Rattle.byteorder.specs.Endian.{little_bytes, little_number}
use Rattle.byteorder.specs.Numbers.{little_from-lt}
use Rattle.s2_colbytes.specs.declared.ColErr.{ColErr}
use Rattle.s2_colbytes.specs.declared.ColErr.TheVariants.{Short, BadTag, Overflow, BadWidth, BadLength, NotText, BadCode, EmptyRun, BadRuns}
use Rattle.s2_colbytes.specs.Reading.{front_at, number_at, unless, alone}
use Rattle.s2_colbytes.specs.Numbers.{IsBytes, numbers, spelled, signed, int_bytes}
use Rattle.s2_colbytes.proofs.Bytes.{IsBytes-take, IsBytes-drop, IsBytes-tail, little_bytes-little_number}
use Rattle.s2_colbytes.proofs.Lists.{spelled-numbers, numbers-fit}
use Rattle.s2_colplain.specs.Ints.{ints_at, ints_in, plain_ints}
use Rattle.s2_colplain.specs.Packed.{packed_at, head_at, unpacked, packed_len, is_over}
use Rattle.s2_colplain.specs.Texts.{texts_at, cut_at, are_ends, last_end, are_texts, ends_from, plain_texts}
use Rattle.s2_colplain.proofs.Cuts.{first_end, cuts_one}
use Rattle.s2_colruns.specs.Codes.{codes_at, has_bad_code}
use Rattle.s2_colruns.specs.Runs.{lens_at, has_empty}
use Rattle.s2_colruns.specs.Dictionary.{decoded}
use Rattle.s2_value.specs.Text.{is_txt, is_text_bytes}
use Rattle.s2_value.specs.declared.values.Value.TheVariants.{Int, Text}
use Rattle.s2_value.specs.declared.values.ColType.{ColType}
use Rattle.s2_value.specs.declared.values.ColType.TheVariants as kind
use Rattle.s2_colenc.specs.declared.forms.Form.{Form}
use Rattle.s2_colenc.specs.declared.forms.Form.TheVariants as form
use Rattle.s2_colenc.specs.declared.views.Entries.{Entries}
use Rattle.s2_colenc.specs.declared.views.Entries.TheVariants as entries
use Rattle.s2_colenc.specs.declared.views.Body.{Body}
use Rattle.s2_colenc.specs.declared.views.Body.TheVariants as body
use Rattle.s2_colenc.specs.Column.{form_of, either_form, tag_at, entries_at, dictionary_at, runs_at, body_at, column_at, entry_values, values_of, repeated}
use Rattle.s2_colenc.specs.Written.{tag_of}
use Rattle.s2_colenc.specs.Spells.{SpellsEntries, ints as int_entries, texts as text_entries, Spells, plain_int, packed_int, plain_text, dictionary, runs}
use Rattle.s2_colenc.proofs.Readings.{goes, passes, ended, same_ok, count_entries, are_codes, are_lens}
use Rattle.s2_colenc.proofs.Lengths.{and_true}

-- the bytes at the front, and those after them
record Front (n : ℕ) (bytes first rest : List ℕ) : Type 0 where
  len : length first ≡ n
  both : bytes ≡ first ++ rest
  front_bytes : IsBytes first
  rest_bytes : IsBytes rest

front : (n : ℕ) (bytes : List ℕ) (x : List ℕ × List ℕ) → IsBytes bytes → front_at n bytes ≡ Ok x → Front n bytes x.0 x.1
front n bytes x h e = go (nat_lt (length bytes) n) refl e
  where
    enough : nat_lt (length bytes) n ≡ false → n ≤ length bytes
    enough b = grind (arith, nat_tests)

    go : (b : Bool) → nat_lt (length bytes) n ≡ b → ◌≡◌ {A = Result (List ℕ × List ℕ) ColErr} (cond b (Err Short) (Ok (take n bytes, drop n bytes))) (Ok x) → Front n bytes x.0 x.1
    go true b p = cc
    go false b p =
        let is : (take n bytes, drop n bytes) ≡ x = same_ok (take n bytes, drop n bytes) x p in
        subst (λ (y : List ℕ × List ℕ). Front n bytes y.0 y.1) is (record {
          len = length-take-le n bytes (enough b);
          both = sym (take-append-drop n bytes);
          front_bytes = IsBytes-take n bytes h;
          rest_bytes = IsBytes-drop n bytes h;
        })

-- a number at the front, and the bytes after it
record Number (w : ℕ) (bytes : List ℕ) (x : ℕ) (rest : List ℕ) : Type 0 where
  small : x < 256 ^ w
  both : bytes ≡ little_bytes w x ++ rest
  rest_bytes : IsBytes rest

number : (w : ℕ) (bytes : List ℕ) (x : ℕ × List ℕ) → IsBytes bytes → number_at w bytes ≡ Ok x → Number w bytes x.0 x.1
number w bytes x h e = go (nat_lt (length bytes) w) refl e
  where
    enough : nat_lt (length bytes) w ≡ false → w ≤ length bytes
    enough b = grind (arith, nat_tests)

    go : (b : Bool) → nat_lt (length bytes) w ≡ b → ◌≡◌ {A = Result (ℕ × List ℕ) ColErr} (cond b (Err Short) (Ok (little_number w bytes, drop w bytes))) (Ok x) → Number w bytes x.0 x.1
    go true b p = cc
    go false b p =
        let is : (little_number w bytes, drop w bytes) ≡ x = same_ok (little_number w bytes, drop w bytes) x p in
        subst (λ (y : ℕ × List ℕ). Number w bytes y.0 y.1) is (record {
          small = little_from-lt 0 w bytes h;
          both = sym (ap (λ (bs : List ℕ). bs ++ drop w bytes) (little_bytes-little_number w bytes h (enough b)) ∙ take-append-drop w bytes);
          rest_bytes = IsBytes-drop w bytes h;
        })

-- numbers of a fixed width that all the bytes are
all_numbers : (w n : ℕ) (bytes : List ℕ) → IsBytes bytes → length bytes ≡ w * n → spelled w (numbers w n bytes) ≡ bytes
all_numbers w n bytes h l = spelled-numbers w n bytes h (omega arith) ∙ take_all (w * n) bytes (omega arith)

signed_back : (xs : List ℕ) → AllByRecursion (λ x. x < 256 ^ 8) xs → plain_ints (map signed xs) ≡ spelled 8 xs
signed_back [] h = refl
signed_back (x ∷ xs) h = join_is (ap (little_bytes 8) (of_z-to_z w64 x h.0)) (signed_back xs h.1)
  where
    join_is : {a b c d : List ℕ} → a ≡ b → c ≡ d → a ++ c ≡ b ++ d
    join_is p q = cc

signed_fit : (xs : List ℕ) → AllByRecursion (λ x. x < 256 ^ 8) xs → AllByRecursion (FitsSigned w64) (map signed xs)
signed_fit [] h = tt
signed_fit (x ∷ xs) h = (fit x h.0, signed_fit xs h.1)
  where
    fit : (x : ℕ) → x < 256 ^ 8 → FitsSigned w64 (signed x)
    fit x l = omega (arith, ints)

-- plain numbers that are read
record OfInts (bytes : List ℕ) (xs : List ℤ) (rest : List ℕ) : Type 0 where
  fits : AllByRecursion (FitsSigned w64) xs
  both : bytes ≡ plain_ints xs ++ rest
  rest_bytes : IsBytes rest

of_ints : (n : ℕ) (bytes : List ℕ) (x : List ℤ × List ℕ) → IsBytes bytes → ints_at n bytes ≡ Ok x → OfInts bytes x.0 x.1
unfolding ints_at
of_ints n bytes x h e =
    let g = goes (front_at (8 * n) bytes) (λ b. Ok (ints_in n b.0, b.1)) x e in
    let f = front (8 * n) bytes g.first h g.was in
    let ns : List ℕ = numbers 8 n g.first.0 in
    let fit = numbers-fit 8 n g.first.0 f.front_bytes in
    let back : plain_ints (ints_in n g.first.0) ≡ g.first.0 = signed_back ns fit ∙ all_numbers 8 n g.first.0 f.front_bytes f.len in
    let is : (ints_in n g.first.0, g.first.1) ≡ x = same_ok (ints_in n g.first.0, g.first.1) x g.later in
    subst (λ (y : List ℤ × List ℕ). OfInts bytes y.0 y.1) is (record { fits = signed_fit ns fit; both = f.both ∙ ap (λ (bs : List ℕ). bs ++ g.first.1) (sym back); rest_bytes = f.rest_bytes })

-- texts that are cut at their ends
record CutAt (start : ℕ) (es bytes : List ℕ) : Type 0 where
  ends : ends_from start (cut_at start es bytes) ≡ es
  all : concat (cut_at start es bytes) ≡ bytes
  short : are_texts (cut_at start es bytes) ≡ true → list_all is_txt (cut_at start es bytes) ≡ true

no_bytes : (start : ℕ) (bytes : List ℕ) → start ≡ start + length bytes → [] ≡ bytes
no_bytes start [] e = refl
no_bytes start (b ∷ bs) e = absurd (omega arith)

cut : (start : ℕ) (es bytes : List ℕ) → are_ends start es ≡ true → last_end start es ≡ start + length bytes → CutAt start es bytes
cut start [] bytes h l = record { ends = refl; all = no_bytes start bytes l; short = λ t. refl }
cut start (e ∷ es) bytes h l =
    let c = cuts_one start e (e ∷ es) es bytes refl h l in
    let f = first_end start e es h in
    let low = c.low in
    let high = f.high in
    let len : length (take (e - start) bytes) ≡ e - start = length-take-le (e - start) bytes c.part in
    let end_is : start + length (take (e - start) bytes) ≡ e = omega arith in
    let r = cut e es (drop (e - start) bytes) c.rising c.last in
    record {
      ends = ap (λ (k : ℕ). k ∷ ends_from k (cut_at e es (drop (e - start) bytes))) end_is ∙ ap (λ (ks : List ℕ). e ∷ ks) r.ends;
      all = ap (λ (bs : List ℕ). take (e - start) bytes ++ bs) r.all ∙ take-append-drop (e - start) bytes;
      short = λ t.
          let both = and_true (is_text_bytes (take (e - start) bytes)) (are_texts (cut_at e es (drop (e - start) bytes))) t in
          let few : nat_le (length (take (e - start) bytes)) 255 ≡ true = le (length (take (e - start) bytes)) 255 (omega arith) in
          rw (few, both.0) (r.short both.1);
    }
  where
    le : (a b : ℕ) → a ≤ b → nat_le a b ≡ true
    le a b q = grind (arith, nat_tests)

last_below : (most start : ℕ) (es : List ℕ) → start < most → AllByRecursion (λ x. x < most) es → last_end start es < most
last_below most start [] l h = l
last_below most start (e ∷ es) l h = last_below most e es h.0 h.1

not_true : (b : Bool) → not b ≡ false → b ≡ true
not_true true h = refl
not_true false h = cc

-- plain texts that are read
record OfTexts (bytes : List ℕ) (ts : List (List ℕ)) (rest : List ℕ) : Type 0 where
  valid : list_all is_txt ts ≡ true
  few : length (concat ts) < 4294967296
  both : bytes ≡ plain_texts ts ++ rest
  rest_bytes : IsBytes rest

of_texts : (n : ℕ) (bytes : List ℕ) (x : List (List ℕ) × List ℕ) → IsBytes bytes → texts_at n bytes ≡ Ok x → OfTexts bytes x.0 x.1
unfolding texts_at
of_texts n bytes x h e =
    let a = goes (front_at (4 * n) bytes) _ x e in
    let f = front (4 * n) bytes a.first h a.was in
    let es : List ℕ = numbers 4 n a.first.0 in
    let b = goes (unless (not (are_ends 0 es)) BadLength es) _ x a.later in
    let rising = passes (not (are_ends 0 es)) BadLength es b.first b.was in
    let c = goes (front_at (last_end 0 b.first) a.first.1) _ x b.later in
    let g = front (last_end 0 b.first) a.first.1 c.first f.rest_bytes c.was in
    let ts : List (List ℕ) = cut_at 0 b.first c.first.0 in
    let d = goes (unless (not (are_texts ts)) NotText ts) (λ us. Ok (us, c.first.1)) x c.later in
    let good = passes (not (are_texts ts)) NotText ts d.first d.was in
    let is : (ts, c.first.1) ≡ x = ap (λ (us : List (List ℕ)). (us, c.first.1)) good.1 ∙ same_ok (d.first, c.first.1) x d.later in
    let ends_are : are_ends 0 b.first ≡ true = ap (are_ends 0) (sym rising.1) ∙ not_true (are_ends 0 es) rising.0 in
    let len = g.len in
    let k = cut 0 b.first c.first.0 ends_are (omega arith) in
    let spell : spelled 4 b.first ≡ a.first.0 = ap (spelled 4) (sym rising.1) ∙ all_numbers 4 n a.first.0 f.front_bytes f.len in
    let few : last_end 0 b.first < 4294967296 = ap_below es b.first rising.1 (numbers-fit 4 n a.first.0 f.front_bytes) in
    let body : plain_texts ts ≡ a.first.0 ++ c.first.0 = join_is (ap (spelled 4) k.ends ∙ spell) k.all in
    let all_len : length (concat ts) ≡ length c.first.0 = ap (λ (bs : List ℕ). length bs) k.all in
    subst (λ (y : List (List ℕ) × List ℕ). OfTexts bytes y.0 y.1) is (record {
      valid = k.short (not_true (are_texts ts) good.0);
      few = omega arith;
      both = f.both ∙ ap (λ (bs : List ℕ). a.first.0 ++ bs) g.both ∙ sym (append_assoc a.first.0 c.first.0 c.first.1) ∙ ap (λ (bs : List ℕ). bs ++ c.first.1) (sym body);
      rest_bytes = g.rest_bytes;
    })
  where
    ap_below : (es fs : List ℕ) → es ≡ fs → AllByRecursion (λ x. x < 256 ^ 4) es → last_end 0 fs < 4294967296
    ap_below es fs p q = subst (λ (ks : List ℕ). last_end 0 ks < 4294967296) p (last_below 4294967296 0 es (omega arith) q)

    join_is : {a b c d : List ℕ} → a ≡ b → c ≡ d → a ++ c ≡ b ++ d
    join_is p q = cc

-- values of a plain body that are read
record OfEntries (kind : ColType) (bytes : List ℕ) (view : Entries) (rest : List ℕ) : Type 0 where
  entry : List ℕ
  spells : SpellsEntries kind (entry_values view) entry
  both : bytes ≡ entry ++ rest
  rest_bytes : IsBytes rest

of_entries : (kind : ColType) (n : ℕ) (bytes : List ℕ) (x : Entries × List ℕ) → IsBytes bytes → entries_at kind n bytes ≡ Ok x → OfEntries kind bytes x.0 x.1
unfolding entries_at
of_entries kind.Int n bytes x h e =
    let g = goes (ints_at n bytes) (λ y. Ok (entries.Ints y.0, y.1)) x e in
    let f = of_ints n bytes g.first h g.was in
    subst (λ (y : Entries × List ℕ). OfEntries kind.Int bytes y.0 y.1) (same_ok (entries.Ints g.first.0, g.first.1) x g.later) (record { entry = plain_ints g.first.0; spells = int_entries g.first.0 f.fits; both = f.both; rest_bytes = f.rest_bytes })
of_entries kind.Text n bytes x h e =
    let g = goes (texts_at n bytes) (λ y. Ok (entries.Texts y.0, y.1)) x e in
    let f = of_texts n bytes g.first h g.was in
    subst (λ (y : Entries × List ℕ). OfEntries kind.Text bytes y.0 y.1) (same_ok (entries.Texts g.first.0, g.first.1) x g.later) (record { entry = plain_texts g.first.0; spells = text_entries g.first.0 f.valid f.few; both = f.both; rest_bytes = f.rest_bytes })

-- numbers of two bytes that are read
record OfPlaces (bytes codes rest : List ℕ) : Type 0 where
  fit : AllByRecursion (λ c. c < 65536) codes
  both : bytes ≡ spelled 2 codes ++ rest
  rest_bytes : IsBytes rest

of_front : (n : ℕ) (bytes first rest : List ℕ) → Front (2 * n) bytes first rest → OfPlaces bytes (numbers 2 n first) rest
of_front n bytes first rest f = record {
  fit = numbers-fit 2 n first f.front_bytes;
  both = f.both ∙ ap (λ (bs : List ℕ). bs ++ rest) (sym (all_numbers 2 n first f.front_bytes f.len));
  rest_bytes = f.rest_bytes;
}

of_codes : (n d : ℕ) (bytes : List ℕ) (x : List ℕ × List ℕ) → IsBytes bytes → codes_at n d bytes ≡ Ok x → OfPlaces bytes x.0 x.1
unfolding codes_at
of_codes n d bytes x h e =
    let a = goes (front_at (2 * n) bytes) _ x e in
    let f = front (2 * n) bytes a.first h a.was in
    let codes : List ℕ = numbers 2 n a.first.0 in
    let b = goes (unless (has_bad_code d codes) BadCode codes) (λ cs. Ok (cs, a.first.1)) x a.later in
    let good = passes (has_bad_code d codes) BadCode codes b.first b.was in
    let is : (codes, a.first.1) ≡ x = ap (λ (cs : List ℕ). (cs, a.first.1)) good.1 ∙ same_ok (b.first, a.first.1) x b.later in
    subst (λ (y : List ℕ × List ℕ). OfPlaces bytes y.0 y.1) is (of_front n bytes a.first.0 a.first.1 f)

of_lens : (n m : ℕ) (bytes : List ℕ) (x : List ℕ × List ℕ) → IsBytes bytes → lens_at n m bytes ≡ Ok x → OfPlaces bytes x.0 x.1
unfolding lens_at
of_lens n m bytes x h e =
    let a = goes (front_at (2 * m) bytes) _ x e in
    let f = front (2 * m) bytes a.first h a.was in
    let lens : List ℕ = numbers 2 m a.first.0 in
    let b = goes (unless (has_empty lens) EmptyRun lens) _ x a.later in
    let full = passes (has_empty lens) EmptyRun lens b.first b.was in
    let c = goes (unless (not (nat_eq (sum b.first) n)) BadRuns b.first) (λ ls. Ok (ls, a.first.1)) x b.later in
    let right = passes (not (nat_eq (sum b.first) n)) BadRuns b.first c.first c.was in
    let is : (lens, a.first.1) ≡ x = ap (λ (ls : List ℕ). (ls, a.first.1)) (full.1 ∙ right.1) ∙ same_ok (c.first, a.first.1) x c.later in
    subst (λ (y : List ℕ × List ℕ). OfPlaces bytes y.0 y.1) is (of_front m bytes a.first.0 a.first.1 f)

-- base and width
record OfHead (bytes : List ℕ) (base : ℤ) (width : ℕ) (rest : List ℕ) : Type 0 where
  fits : FitsSigned w64 base
  narrow : width ≤ 63
  both : bytes ≡ int_bytes base ++ width ∷ rest
  rest_bytes : IsBytes rest

nine : (bs : List ℕ) → length bs ≡ 9 → IsBytes bs → bs ≡ int_bytes (signed (little_number 8 bs)) ++ get_or bs 8 0 ∷ []
nine bs l h =
    let small : little_number 8 bs < 256 ^ 8 = little_from-lt 0 8 bs h in
    let eight : int_bytes (signed (little_number 8 bs)) ≡ take 8 bs = ap (little_bytes 8) (of_z-to_z w64 (little_number 8 bs) small) ∙ little_bytes-little_number 8 bs h (omega arith) in
    sym (take_all 9 bs (omega arith)) ∙ take_more bs 8 0 (omega arith) ∙ ap (λ (xs : List ℕ). xs ++ get_or bs 8 0 ∷ []) (sym eight)

of_head : (bytes : List ℕ) (x : ℤ × ℕ × List ℕ) → IsBytes bytes → head_at bytes ≡ Ok x → OfHead bytes x.0 x.1 x.2
unfolding head_at
of_head bytes x h e =
    let a = goes (front_at 9 bytes) _ x e in
    let f = front 9 bytes a.first h a.was in
    let w : ℕ = get_or a.first.0 8 0 in
    let b = goes (unless (nat_lt 63 w) BadWidth w) (λ v. Ok (signed (little_number 8 a.first.0), v, a.first.1)) x a.later in
    let good = passes (nat_lt 63 w) BadWidth w b.first b.was in
    let is : (signed (little_number 8 a.first.0), w, a.first.1) ≡ x = ap (λ (v : ℕ). (signed (little_number 8 a.first.0), v, a.first.1)) good.1 ∙ same_ok (signed (little_number 8 a.first.0), b.first, a.first.1) x b.later in
    subst (λ (y : ℤ × ℕ × List ℕ). OfHead bytes y.0 y.1 y.2) is (record {
      fits = fit (little_number 8 a.first.0) (little_from-lt 0 8 a.first.0 f.front_bytes);
      narrow = narrow w good.0;
      both = f.both ∙ ap (λ (bs : List ℕ). bs ++ a.first.1) (nine a.first.0 f.len f.front_bytes) ∙ append_assoc (int_bytes (signed (little_number 8 a.first.0))) (w ∷ []) a.first.1;
      rest_bytes = f.rest_bytes;
    })
  where
    fit : (x : ℕ) → x < 256 ^ 8 → FitsSigned w64 (signed x)
    fit x l = omega (arith, ints)

    narrow : (w : ℕ) → nat_lt 63 w ≡ false → w ≤ 63
    narrow w l = grind (arith, nat_tests)

-- packed numbers that all the bytes are
of_packed : (n : ℕ) (bytes : List ℕ) (xs : List ℤ) → IsBytes bytes → packed_at n bytes ≡ Ok (xs, []) → Spells kind.Int (map Int xs) (1 ∷ bytes)
unfolding packed_at
of_packed n bytes xs h e =
    let a = goes (head_at bytes) _ (xs, []) e in
    let p = of_head bytes a.first h a.was in
    let b = goes (front_at (packed_len a.first.1 n) a.first.2) _ (xs, []) a.later in
    let f = front (packed_len a.first.1 n) a.first.2 b.first p.rest_bytes b.was in
    let ys : List ℤ = unpacked a.first.0 a.first.1 n b.first.0 in
    let c = goes (unless (list_any is_over ys) Overflow ys) (λ zs. Ok (zs, b.first.1)) (xs, []) b.later in
    let good = passes (list_any is_over ys) Overflow ys c.first c.was in
    let is : (ys, b.first.1) ≡ (xs, []) = ap (λ (zs : List ℤ). (zs, b.first.1)) good.1 ∙ same_ok (c.first, b.first.1) (xs, []) c.later in
    let values : ys ≡ xs = ap (λ (y : List ℤ × List ℕ). y.0) is in
    let none : b.first.1 ≡ [] = ap (λ (y : List ℤ × List ℕ). y.1) is in
    let bits : a.first.2 ≡ b.first.0 = f.both ∙ ap (λ (bs : List ℕ). b.first.0 ++ bs) none ∙ append-nil b.first.0 in
    let whole : bytes ≡ int_bytes a.first.0 ++ a.first.1 ∷ b.first.0 = p.both ∙ ap (λ (bs : List ℕ). int_bytes a.first.0 ++ a.first.1 ∷ bs) bits in
    subst (λ (zs : List ℤ). Spells kind.Int (map Int zs) (1 ∷ bytes)) values
    (subst (λ (bs : List ℕ). Spells kind.Int (map Int ys) (1 ∷ bs)) (sym whole) (packed_int a.first.0 a.first.1 n b.first.0 p.fits p.narrow f.len good.0))

of_dictionary : (kind : ColType) (n : ℕ) (bytes : List ℕ) (b : Body) → IsBytes bytes → dictionary_at kind n bytes ≡ Ok (b, []) → Spells kind (values_of b) (3 ∷ bytes)
unfolding dictionary_at
of_dictionary kind n bytes b h e =
    let a = goes (number_at 4 bytes) _ (b, []) e in
    let p = number 4 bytes a.first h a.was in
    let c = goes (entries_at kind a.first.0 a.first.1) _ (b, []) a.later in
    let q = of_entries kind a.first.0 a.first.1 c.first p.rest_bytes c.was in
    let d = goes (codes_at n a.first.0 c.first.1) (λ cs. Ok (body.Dictionary c.first.0 cs.0, cs.1)) (b, []) c.later in
    let r = of_codes n a.first.0 c.first.1 d.first q.rest_bytes d.was in
    let are = are_codes n a.first.0 c.first.1 d.first d.was in
    let many = count_entries kind a.first.0 a.first.1 c.first c.was in
    let is : (body.Dictionary c.first.0 d.first.0, d.first.1) ≡ (b, []) = same_ok (body.Dictionary c.first.0 d.first.0, d.first.1) (b, []) d.later in
    let none : d.first.1 ≡ [] = ap (λ (y : Body × List ℕ). y.1) is in
    let codes_are : c.first.1 ≡ spelled 2 d.first.0 = r.both ∙ ap (λ (bs : List ℕ). spelled 2 d.first.0 ++ bs) none ∙ append-nil (spelled 2 d.first.0) in
    let whole : bytes ≡ little_bytes 4 (length (entry_values c.first.0)) ++ (q.entry ++ spelled 2 d.first.0) =
    p.both ∙ ap (λ (k : ℕ). little_bytes 4 k ++ a.first.1) (sym many) ∙ ap (λ (bs : List ℕ). little_bytes 4 (length (entry_values c.first.0)) ++ bs) (q.both ∙ ap (λ (bs : List ℕ). q.entry ++ bs) codes_are) in
    let small = p.small in
    let below : has_bad_code (length (entry_values c.first.0)) d.first.0 ≡ false = ap (λ (k : ℕ). has_bad_code k d.first.0) many ∙ are.below in
    subst (λ (y : Body × List ℕ). Spells kind (values_of y.0) (3 ∷ bytes)) is
    (subst (λ (bs : List ℕ). Spells kind (decoded (entry_values c.first.0) d.first.0) (3 ∷ bs)) (sym whole) (dictionary kind (entry_values c.first.0) q.entry d.first.0 q.spells (omega arith) below r.fit))

of_runs : (kind : ColType) (n : ℕ) (bytes : List ℕ) (b : Body) → IsBytes bytes → runs_at kind n bytes ≡ Ok (b, []) → Spells kind (values_of b) (4 ∷ bytes)
unfolding runs_at
of_runs kind n bytes b h e =
    let a = goes (number_at 4 bytes) _ (b, []) e in
    let p = number 4 bytes a.first h a.was in
    let c = goes (lens_at n a.first.0 a.first.1) _ (b, []) a.later in
    let q = of_lens n a.first.0 a.first.1 c.first p.rest_bytes c.was in
    let are = are_lens n a.first.0 a.first.1 c.first c.was in
    let d = goes (entries_at kind a.first.0 c.first.1) (λ vs. Ok (body.Runs c.first.0 vs.0, vs.1)) (b, []) c.later in
    let r = of_entries kind a.first.0 c.first.1 d.first q.rest_bytes d.was in
    let many = count_entries kind a.first.0 c.first.1 d.first d.was in
    let is : (body.Runs c.first.0 d.first.0, d.first.1) ≡ (b, []) = same_ok (body.Runs c.first.0 d.first.0, d.first.1) (b, []) d.later in
    let none : d.first.1 ≡ [] = ap (λ (y : Body × List ℕ). y.1) is in
    let entry_is : c.first.1 ≡ r.entry = r.both ∙ ap (λ (bs : List ℕ). r.entry ++ bs) none ∙ append-nil r.entry in
    let whole : bytes ≡ little_bytes 4 (length c.first.0) ++ (spelled 2 c.first.0 ++ r.entry) =
    p.both ∙ ap (λ (k : ℕ). little_bytes 4 k ++ a.first.1) (sym are.many) ∙ ap (λ (bs : List ℕ). little_bytes 4 (length c.first.0) ++ bs) (q.both ∙ ap (λ (bs : List ℕ). spelled 2 c.first.0 ++ bs) entry_is) in
    let small = p.small in
    let lens_many = are.many in
    subst (λ (y : Body × List ℕ). Spells kind (values_of y.0) (4 ∷ bytes)) is
    (subst (λ (bs : List ℕ). Spells kind (repeated c.first.0 (entry_values d.first.0)) (4 ∷ bs)) (sym whole) (runs kind c.first.0 (entry_values d.first.0) r.entry r.spells (are.many ∙ sym many) (omega arith) are.full q.fit))

-- the tag of a form that was found, and a type that has the form
record Tagged (kind : ColType) (tag : ℕ) (f : Form) : Type 0 where
  tag_is : tag ≡ tag_of f
  fits : form_of kind (tag_of f) ≡ Ok f

either_is : (type : ColType) (tag : ℕ) (f : Form) → either_form tag ≡ Ok f → Tagged type tag f
either_is type tag f e = three (nat_eq tag 3) refl e
  where
    eq : (a b : ℕ) → nat_eq a b ≡ true → a ≡ b
    eq a b h = grind (arith, nat_tests)

    both : (k : ColType) → form_of k 3 ≡ Ok form.Dictionary
    both kind.Int = refl
    both kind.Text = refl

    last : (k : ColType) → form_of k 4 ≡ Ok form.Runs
    last kind.Int = refl
    last kind.Text = refl

    four : (c : Bool) → nat_eq tag 4 ≡ c → cond c (Ok form.Runs) (Err BadTag) ≡ Ok f → Tagged type tag f
    four true h p = subst (Tagged type tag) (same_ok form.Runs f p) (record { tag_is = eq tag 4 h; fits = last type })
    four false h p = cc

    three : (c : Bool) → nat_eq tag 3 ≡ c → cond c (Ok form.Dictionary) (cond (nat_eq tag 4) (Ok form.Runs) (Err BadTag)) ≡ Ok f → Tagged type tag f
    three true h p = subst (Tagged type tag) (same_ok form.Dictionary f p) (record { tag_is = eq tag 3 h; fits = both type })
    three false h p = four (nat_eq tag 4) refl p

tagged : (kind : ColType) (tag : ℕ) (f : Form) → form_of kind tag ≡ Ok f → Tagged kind tag f
tagged kind.Int tag f e = zeroth (nat_eq tag 0) refl e
  where
    eq : (a b : ℕ) → nat_eq a b ≡ true → a ≡ b
    eq a b h = grind (arith, nat_tests)

    first : (c : Bool) → nat_eq tag 1 ≡ c → cond c (Ok form.PackedInt) (either_form tag) ≡ Ok f → Tagged kind.Int tag f
    first true h p = subst (Tagged kind.Int tag) (same_ok form.PackedInt f p) (record { tag_is = eq tag 1 h; fits = refl })
    first false h p = either_is kind.Int tag f p

    zeroth : (c : Bool) → nat_eq tag 0 ≡ c → cond c (Ok form.PlainInt) (cond (nat_eq tag 1) (Ok form.PackedInt) (either_form tag)) ≡ Ok f → Tagged kind.Int tag f
    zeroth true h p = subst (Tagged kind.Int tag) (same_ok form.PlainInt f p) (record { tag_is = eq tag 0 h; fits = refl })
    zeroth false h p = first (nat_eq tag 1) refl p
tagged kind.Text tag f e = second (nat_eq tag 2) refl e
  where
    eq : (a b : ℕ) → nat_eq a b ≡ true → a ≡ b
    eq a b h = grind (arith, nat_tests)

    second : (c : Bool) → nat_eq tag 2 ≡ c → cond c (Ok form.PlainText) (either_form tag) ≡ Ok f → Tagged kind.Text tag f
    second true h p = subst (Tagged kind.Text tag) (same_ok form.PlainText f p) (record { tag_is = eq tag 2 h; fits = refl })
    second false h p = either_is kind.Text tag f p

of_body : (kind : ColType) (n : ℕ) (f : Form) (bytes : List ℕ) (b : Body) → form_of kind (tag_of f) ≡ Ok f → IsBytes bytes → body_at kind n f bytes ≡ Ok (b, []) → Spells kind (values_of b) (tag_of f ∷ bytes)
unfolding body_at
of_body kind.Int n form.PlainInt bytes b t h e =
    let g = goes (ints_at n bytes) (λ y. Ok (body.Ints y.0, y.1)) (b, []) e in
    let f = of_ints n bytes g.first h g.was in
    let is : (body.Ints g.first.0, g.first.1) ≡ (b, []) = same_ok (body.Ints g.first.0, g.first.1) (b, []) g.later in
    let none : g.first.1 ≡ [] = ap (λ (y : Body × List ℕ). y.1) is in
    let whole : bytes ≡ plain_ints g.first.0 = f.both ∙ ap (λ (bs : List ℕ). plain_ints g.first.0 ++ bs) none ∙ append-nil (plain_ints g.first.0) in
    subst (λ (y : Body × List ℕ). Spells kind.Int (values_of y.0) (0 ∷ bytes)) is
    (subst (λ (bs : List ℕ). Spells kind.Int (map Int g.first.0) (0 ∷ bs)) (sym whole) (plain_int (map Int g.first.0) (plain_ints g.first.0) (int_entries g.first.0 f.fits)))
of_body kind.Text n form.PlainInt bytes b t h e = cc
of_body kind.Int n form.PackedInt bytes b t h e =
    let g = goes (packed_at n bytes) (λ y. Ok (body.Packed y.0, y.1)) (b, []) e in
    let is : (body.Packed g.first.0, g.first.1) ≡ (b, []) = same_ok (body.Packed g.first.0, g.first.1) (b, []) g.later in
    let none : g.first.1 ≡ [] = ap (λ (y : Body × List ℕ). y.1) is in
    let was : packed_at n bytes ≡ Ok (g.first.0, []) = g.was ∙ ap (λ (r : List ℕ). Ok (g.first.0, r)) none in
    subst (λ (y : Body × List ℕ). Spells kind.Int (values_of y.0) (1 ∷ bytes)) is (of_packed n bytes g.first.0 h was)
of_body kind.Text n form.PackedInt bytes b t h e = cc
of_body kind.Int n form.PlainText bytes b t h e = cc
of_body kind.Text n form.PlainText bytes b t h e =
    let g = goes (texts_at n bytes) (λ y. Ok (body.Texts y.0, y.1)) (b, []) e in
    let f = of_texts n bytes g.first h g.was in
    let is : (body.Texts g.first.0, g.first.1) ≡ (b, []) = same_ok (body.Texts g.first.0, g.first.1) (b, []) g.later in
    let none : g.first.1 ≡ [] = ap (λ (y : Body × List ℕ). y.1) is in
    let whole : bytes ≡ plain_texts g.first.0 = f.both ∙ ap (λ (bs : List ℕ). plain_texts g.first.0 ++ bs) none ∙ append-nil (plain_texts g.first.0) in
    subst (λ (y : Body × List ℕ). Spells kind.Text (values_of y.0) (2 ∷ bytes)) is
    (subst (λ (bs : List ℕ). Spells kind.Text (map Text g.first.0) (2 ∷ bs)) (sym whole) (plain_text (map Text g.first.0) (plain_texts g.first.0) (text_entries g.first.0 f.valid f.few)))
of_body kind n form.Dictionary bytes b t h e = of_dictionary kind n bytes b h e
of_body kind n form.Runs bytes b t h e = of_runs kind n bytes b h e

tag_first : (kind : ColType) (bytes : List ℕ) (x : Form × List ℕ) → tag_at kind bytes ≡ Ok x → (tag : ℕ) × ((bytes ≡ tag ∷ x.1) × (form_of kind tag ≡ Ok x.0))
unfolding tag_at
tag_first kind [] x e = cc
tag_first kind (tag ∷ rest) x e =
    let g = goes (form_of kind tag) (λ f. Ok (f, rest)) x e in
    let is : (g.first, rest) ≡ x = same_ok (g.first, rest) x g.later in
    (tag, (ap (λ (y : Form × List ℕ). tag ∷ y.1) is, g.was ∙ ap (λ (y : Form × List ℕ). Ok y.0) is))

pub read_is_spelled : (kind : ColType) (n : ℕ) (bytes : List ℕ) (b : Body) → IsBytes bytes → column_at kind n bytes ≡ Ok b → Spells kind (values_of b) bytes
unfolding column_at
read_is_spelled kind n bytes b h e =
    let head = goes (tag_at kind bytes) _ b e in
    let t = tag_first kind bytes head.first head.was in
    let read = goes (body_at kind n head.first.0 head.first.1) alone b head.later in
    let same : read.first ≡ (b, []) = ended read.first b read.later in
    let named = tagged kind t.0 head.first.0 t.1.1 in
    let whole : bytes ≡ tag_of head.first.0 ∷ head.first.1 = t.1.0 ∙ ap (λ (k : ℕ). k ∷ head.first.1) named.tag_is in
    let rest : IsBytes head.first.1 = IsBytes-tail t.0 head.first.1 (subst IsBytes t.1.0 h) in
    subst (Spells kind (values_of b)) (sym whole) (of_body kind n head.first.0 head.first.1 b named.fits rest (read.was ∙ ap Ok same))
