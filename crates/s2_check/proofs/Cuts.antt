-- Where the first line ends, with its end, and what the lines are then.
use Rattle.std.proofs.Common.{◌≡◌, ℕ, suc, zero, ◌+◌, ◌<◌, ◌≤◌, Bool, true, false, List, [], ◌∷◌, ◌++◌, length, take, drop, if◌then◌else◌, ◌==◌, refl, ap, sym, ◌∙◌, arith, flat_map}
use Rattle.std.proofs.lemmas.List.{append_assoc, append-nil}
use Rattle.std.proofs.lemmas.Bool.Decides.{nat_tests}
use Rattle.s2_check.specs.Inputs.{ended_lines, with_byte, is_mark, before_mark, after_mark, script_part, output_part}
use Rattle.s2_check.specs.Sizes.{line_size}

tenth : (b : ℕ) → (b == 10) ≡ true → 10 ≡ b
tenth b e = grind (arith, nat_tests)

first_step : (b : ℕ) (bs : List ℕ) (t : Bool)
    → (0 < length bs → ended_lines bs ≡ take (line_size bs) bs ∷ ended_lines (drop (line_size bs) bs))
    → (b == 10) ≡ t
    → (if t then (10 ∷ []) ∷ ended_lines bs else with_byte b (ended_lines bs)) ≡ take (if t then 1 else suc (line_size bs)) (b ∷ bs) ∷ ended_lines (drop (if t then 1 else suc (line_size bs)) (b ∷ bs))
first_step b bs true ih e = ap (λ x. (x ∷ []) ∷ ended_lines bs) (tenth b e)
first_step b [] false ih e = refl
first_step b (c ∷ bs) false ih e = ap (with_byte b) (ih (omega arith))

-- the lines of a text begin with its first line
pub first_line : (bs : List ℕ) → 0 < length bs → ended_lines bs ≡ take (line_size bs) bs ∷ ended_lines (drop (line_size bs) bs)
first_line [] s = absurd (omega arith)
first_line (b ∷ bs) s = first_step b bs (b == 10) (first_line bs) refl

some_step : (t : Bool) (bs : List ℕ) → 0 < (if t then 1 else suc (line_size bs))
some_step true bs = omega arith
some_step false bs = omega arith

within_step : (t : Bool) (bs : List ℕ) → line_size bs ≤ length bs → (if t then 1 else suc (line_size bs)) ≤ suc (length bs)
within_step true bs h = omega arith
within_step false bs h = omega arith

pub size_some : (bs : List ℕ) → 0 < length bs → 0 < line_size bs
size_some [] s = absurd (omega arith)
size_some (b ∷ bs) s = some_step (b == 10) bs

pub size_within : (bs : List ℕ) → line_size bs ≤ length bs
size_within [] = omega arith
size_within (b ∷ bs) = within_step (b == 10) bs (size_within bs)

zero_plus : (b : ℕ) → 0 + b ≡ b
zero_plus b = omega arith

suc_plus : (a b : ℕ) → suc a + b ≡ suc (a + b)
suc_plus a b = omega arith

drop_none : (b : ℕ) → ◌≡◌ {A = List ℕ} [] (drop b [])
drop_none zero = refl
drop_none (suc b) = refl

take_none : (b : ℕ) → ◌≡◌ {A = List ℕ} [] (take b [])
take_none zero = refl
take_none (suc b) = refl

all_dropped : (xs : List ℕ) (n : ℕ) → length xs ≤ n → drop n xs ≡ []
all_dropped [] zero h = refl
all_dropped [] (suc n) h = refl
all_dropped (x ∷ xs) zero h = absurd (omega arith)
all_dropped (x ∷ xs) (suc n) h = all_dropped xs n (omega arith)

drop_twice : (a b : ℕ) (xs : List ℕ) → drop (a + b) xs ≡ drop b (drop a xs)
drop_twice zero b xs = ap (λ (k : ℕ). drop k xs) (zero_plus b)
drop_twice (suc a) b [] = sym (drop_none (suc a + b)) ∙ drop_none b
drop_twice (suc a) b (x ∷ xs) = ap (λ (k : ℕ). drop k (x ∷ xs)) (suc_plus a b) ∙ drop_twice a b xs

take_twice : (a b : ℕ) (xs : List ℕ) → take (a + b) xs ≡ take a xs ++ take b (drop a xs)
take_twice zero b xs = ap (λ (k : ℕ). take k xs) (zero_plus b)
take_twice (suc a) b [] = sym (take_none (suc a + b)) ∙ take_none b
take_twice (suc a) b (x ∷ xs) = ap (λ (k : ℕ). take k (x ∷ xs)) (suc_plus a b) ∙ ap (λ (l : List ℕ). x ∷ l) (take_twice a b xs)

-- the first line is the mark

marked_before : (l : List ℕ) (ls : List (List ℕ)) (t : Bool) → is_mark l ≡ t → true ≡ t → before_mark (l ∷ ls) ≡ []
marked_before l ls t e f = rw (e ∙ sym f)

marked_after : (l : List ℕ) (ls : List (List ℕ)) (t : Bool) → is_mark l ≡ t → true ≡ t → after_mark (l ∷ ls) ≡ flat_map (λ line. line) ls
marked_after l ls t e f = rw (e ∙ sym f)

joined_step : (b : ℕ) (t : Bool) (ls : List (List ℕ)) (bs : List ℕ) → (b == 10) ≡ t → flat_map (λ line. line) ls ≡ bs → flat_map (λ line. line) (if t then (10 ∷ []) ∷ ls else with_byte b ls) ≡ b ∷ bs
joined_step b true ls bs e h = ap (λ x. x ∷ flat_map (λ line. line) ls) (tenth b e) ∙ ap (λ (l : List ℕ). b ∷ l) h
joined_step b false [] bs e h = ap (λ (l : List ℕ). b ∷ l) h
joined_step b false (l ∷ ls) bs e h = ap (λ (l : List ℕ). b ∷ l) h

-- the lines with their ends are the text
joined : (bs : List ℕ) → flat_map (λ line. line) (ended_lines bs) ≡ bs
joined [] = refl
joined (b ∷ bs) = joined_step b (b == 10) (ended_lines bs) bs refl (joined bs)

pub script_ends : (bs : List ℕ) → 0 < length bs → is_mark (take (line_size bs) bs) ≡ true → script_part bs ≡ []
script_ends bs s m = ap before_mark (first_line bs s) ∙ marked_before (take (line_size bs) bs) (ended_lines (drop (line_size bs) bs)) _ refl (sym m)

pub output_begins : (bs : List ℕ) → 0 < length bs → is_mark (take (line_size bs) bs) ≡ true → output_part bs ≡ drop (line_size bs) bs
output_begins bs s m = ap after_mark (first_line bs s) ∙ marked_after (take (line_size bs) bs) (ended_lines (drop (line_size bs) bs)) _ refl (sym m) ∙ joined (drop (line_size bs) bs)

-- the first line isn't the mark

plain_before : (l : List ℕ) (ls : List (List ℕ)) (t : Bool) → is_mark l ≡ t → false ≡ t → before_mark (l ∷ ls) ≡ l ++ before_mark ls
plain_before l ls t e f = rw (e ∙ sym f)

plain_after : (l : List ℕ) (ls : List (List ℕ)) (t : Bool) → is_mark l ≡ t → false ≡ t → after_mark (l ∷ ls) ≡ after_mark ls
plain_after l ls t e f = rw (e ∙ sym f)

script_goes_on : (bs : List ℕ) → 0 < length bs → is_mark (take (line_size bs) bs) ≡ false → script_part bs ≡ take (line_size bs) bs ++ script_part (drop (line_size bs) bs)
script_goes_on bs s m = ap before_mark (first_line bs s) ∙ plain_before (take (line_size bs) bs) (ended_lines (drop (line_size bs) bs)) _ refl (sym m)

output_goes_on : (bs : List ℕ) → 0 < length bs → is_mark (take (line_size bs) bs) ≡ false → output_part bs ≡ output_part (drop (line_size bs) bs)
output_goes_on bs s m = ap after_mark (first_line bs s) ∙ plain_after (take (line_size bs) bs) (ended_lines (drop (line_size bs) bs)) _ refl (sym m)

pub script_next : (text : List ℕ) (at : ℕ) → 0 < length (drop at text) → is_mark (take (line_size (drop at text)) (drop at text)) ≡ false
    → script_part text ≡ take at text ++ script_part (drop at text)
    → script_part text ≡ take (at + line_size (drop at text)) text ++ script_part (drop (at + line_size (drop at text)) text)
script_next text at s m e =
    e ∙ ap (λ (l : List ℕ). take at text ++ l) (script_goes_on (drop at text) s m)
    ∙ sym (append_assoc (take at text) (take (line_size (drop at text)) (drop at text)) (script_part (drop (line_size (drop at text)) (drop at text))))
    ∙ ap (λ (l : List ℕ). l ++ script_part (drop (line_size (drop at text)) (drop at text))) (sym (take_twice at (line_size (drop at text)) text))
    ∙ ap (λ (l : List ℕ). take (at + line_size (drop at text)) text ++ script_part l) (sym (drop_twice at (line_size (drop at text)) text))

pub output_next : (text : List ℕ) (at : ℕ) → 0 < length (drop at text) → is_mark (take (line_size (drop at text)) (drop at text)) ≡ false
    → output_part text ≡ output_part (drop at text)
    → output_part text ≡ output_part (drop (at + line_size (drop at text)) text)
output_next text at s m e = e ∙ output_goes_on (drop at text) s m ∙ ap output_part (sym (drop_twice at (line_size (drop at text)) text))

-- the whole text is gone through
pub script_whole : (text : List ℕ) (at : ℕ) → length text ≤ at → script_part text ≡ take at text ++ script_part (drop at text) → script_part text ≡ take at text
script_whole text at s e = e ∙ ap (λ (l : List ℕ). take at text ++ script_part l) (all_dropped text at s) ∙ append-nil (take at text)

pub output_whole : (text : List ℕ) (at : ℕ) → length text ≤ at → output_part text ≡ output_part (drop at text) → output_part text ≡ drop at text
output_whole text at s e = e ∙ ap output_part (all_dropped text at s) ∙ sym (all_dropped text at s)

-- the same, of the parts that the code holds: the rest from the place on, and the first line of it

marks_of : (text rest line : List ℕ) (at n : ℕ) (t : Bool) → rest ≡ drop at text → n ≡ line_size rest → line ≡ take n rest → t ≡ is_mark line
    → is_mark (take (line_size (drop at text)) (drop at text)) ≡ t
marks_of text rest line at n t r e l m = let same : line ≡ take (line_size (drop at text)) (drop at text) = cc in ap is_mark (sym same) ∙ sym m

pub script_found : (text rest line : List ℕ) (at n : ℕ) → rest ≡ drop at text → n ≡ line_size rest → line ≡ take n rest → true ≡ is_mark line → 0 < length (drop at text)
    → script_part text ≡ take at text ++ script_part (drop at text) → take at text ≡ script_part text
script_found text rest line at n r e l m s h =
    sym (h ∙ ap (λ (p : List ℕ). take at text ++ p) (script_ends (drop at text) s (marks_of text rest line at n true r e l m)) ∙ append-nil (take at text))

pub output_found : (text rest line : List ℕ) (at n : ℕ) → rest ≡ drop at text → n ≡ line_size rest → line ≡ take n rest → true ≡ is_mark line → 0 < length (drop at text)
    → output_part text ≡ output_part (drop at text) → drop n rest ≡ output_part text
output_found text rest line at n r e l m s h =
    let same : drop n rest ≡ drop (line_size (drop at text)) (drop at text) = cc in
    same ∙ sym (h ∙ output_begins (drop at text) s (marks_of text rest line at n true r e l m))

pub script_kept : (text rest line : List ℕ) (at n k : ℕ) → rest ≡ drop at text → n ≡ line_size rest → line ≡ take n rest → false ≡ is_mark line → 0 < length (drop at text) → k ≡ n
    → script_part text ≡ take at text ++ script_part (drop at text) → script_part text ≡ take (at + k) text ++ script_part (drop (at + k) text)
script_kept text rest line at n k r e l m s f h =
    let same : k ≡ line_size (drop at text) = cc in
    script_next text at s (marks_of text rest line at n false r e l m) h ∙ ap (λ (j : ℕ). take (at + j) text ++ script_part (drop (at + j) text)) (sym same)

pub output_kept : (text rest line : List ℕ) (at n k : ℕ) → rest ≡ drop at text → n ≡ line_size rest → line ≡ take n rest → false ≡ is_mark line → 0 < length (drop at text) → k ≡ n
    → output_part text ≡ output_part (drop at text) → output_part text ≡ output_part (drop (at + k) text)
output_kept text rest line at n k r e l m s f h =
    let same : k ≡ line_size (drop at text) = cc in
    output_next text at s (marks_of text rest line at n false r e l m) h ∙ ap (λ (j : ℕ). output_part (drop (at + j) text)) (sym same)
