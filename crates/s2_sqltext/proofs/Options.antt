-- The five options are printed within their limits, each once, and set what is given.
use Rattle.std.proofs.Common.{◌≡◌, ℕ, ◌≤◌, Bool, true, false, List, [], ◌∷◌, ◌++◌, None, nat_le, is_some, ◌&&◌, refl, ap, codes, arith}
use Rattle.std.proofs.lemmas.Bool.{and_parts}
use Rattle.std.proofs.lemmas.Bool.Decides.{nat_tests}
use Rattle.std.specs.List.{AllByRecursion}
use Rattle.s2_value.specs.Columns.{is_between}
use Rattle.s2_model.specs.Limits.{are_options}
use Rattle.s2_model.specs.declared.scripts.Options.{Options}
use Rattle.s2_token.specs.Lexing.{most_number}
use Rattle.s2_line.specs.declared.forms.RawOf.TheVariants as raw
use Rattle.s2_judge.specs.declared.known.Known.{Known}
use Rattle.s2_judge.specs.Kinds.{Line, is_wide_count, is_option_value, is_option, is_long_name, fault_of, no_lines}
use Rattle.s2_build.specs.Drafts.{Given, given_of, Draft, all_drafted, start, with_option, is_chosen}
use Rattle.s2_sqltext.specs.Printing.{option_lines, workers_number}
use Rattle.s2_sqltext.proofs.GoodLines.{IsGoodLine, AllRun}
use Rattle.s2_sqltext.proofs.Faults.{no_fault}
use Rattle.s2_token.specs.Words.{is_name, keyword_of, keyword_text, keywords}

-- the limits of the options
record Within (a b c d : ℕ) : Type 0 where
  segment_rows : is_between 1 8192 a ≡ true
  flush_rows : is_between 1 65536 b ≡ true
  fanout : is_between 2 16 c ≡ true
  cache : is_between 1 32 d ≡ true

within : (a b c d : ℕ) → are_options a b c d ≡ true → Within a b c d
within a b c d h =
    let p = and_parts (is_between 1 8192 a && is_between 1 65536 b && is_between 2 16 c) (is_between 1 32 d) h in
    let q = and_parts (is_between 1 8192 a && is_between 1 65536 b) (is_between 2 16 c) p.0 in
    let r = and_parts (is_between 1 8192 a) (is_between 1 65536 b) q.0 in
    record { segment_rows = r.0; flush_rows = r.1; fanout = q.1; cache = p.1 }

small : (low high n : ℕ) → high ≤ 65536 → is_between low high n ≡ true → n ≤ 65536
small low high n h e =
    let p = and_parts (nat_le low n) (nat_le n high) e in
    grind (arith, nat_tests, p.1)

small_count : (n : ℕ) → n ≤ 65536 → is_wide_count n ≡ false
small_count n h = grind (arith, nat_tests)

small_number : (n : ℕ) → n ≤ 65536 → n ≤ most_number
small_number n h = omega arith

workers_small : (b : Bool) → workers_number b ≤ 65536
workers_small true = omega arith
workers_small false = omega arith

good_option : (name : List ℕ) (n : ℕ) → is_name name ≡ true → n ≤ 65536 → IsGoodLine (raw.Option name n)
good_option name n e h = record { fits = tt; fine = (tt, (e, (small_number n h, tt))) }

-- the names of the options are no keywords
record Named : Type 0 where
  segment_rows : is_name (codes "segment_rows") ≡ true
  flush_rows : is_name (codes "flush_rows") ≡ true
  fanout : is_name (codes "fanout") ≡ true
  cache : is_name (codes "cache") ≡ true
  workers : is_name (codes "workers") ≡ true

named : Named
unfolding keyword_of keywords keyword_text
named = record { segment_rows = refl; flush_rows = refl; fanout = refl; cache = refl; workers = refl }

pub options_good : (o : Options) → AllByRecursion IsGoodLine (option_lines o)
options_good o =
    let w = within o.segment_rows o.flush_rows o.fanout o.cache o.within in (
      good_option (codes "segment_rows") o.segment_rows named.segment_rows (small 1 8192 o.segment_rows (omega arith) w.segment_rows),
      (
        good_option (codes "flush_rows") o.flush_rows named.flush_rows (small 1 65536 o.flush_rows (omega arith) w.flush_rows),
        (
          good_option (codes "fanout") o.fanout named.fanout (small 2 16 o.fanout (omega arith) w.fanout),
          (
            good_option (codes "cache") o.cache named.cache (small 1 32 o.cache (omega arith) w.cache),
            (good_option (codes "workers") (workers_number o.workers) named.workers (workers_small o.workers), tt),
          ),
        ),
      ),
    )

-- an option that isn't known yet, within its limits, before the table
option_fine : (known : Known) (name : List ℕ) (n : ℕ) → known.table ≡ None → n ≤ 65536 → is_option_value known (raw.Option name n) ≡ false → is_long_name name ≡ false → fault_of known (raw.Option name n) ≡ None
option_fine known name n t h v l =
    no_fault known (raw.Option name n) (record { range = small_count n h; long = refl; placed = ap (λ o. is_some o) t; option = v; limit = l; name = refl; repeated = refl; type' = refl; job = refl; built = refl })

-- what is known where these options are given
abbrev given : List (List ℕ) → Known
given names = record { options = names; table = None; jobs = no_lines.jobs }

-- what is known after the options
abbrev pub after_options : Options → Known
after_options o = record { options = codes "segment_rows" ∷ codes "flush_rows" ∷ codes "fanout" ∷ codes "cache" ∷ codes "workers" ∷ []; table = None; jobs = no_lines.jobs }

workers_option : (b : Bool) → is_option (codes "workers") (workers_number b) ≡ true
workers_option true = refl
workers_option false = refl

pub options_run : (o : Options) (rs : List Line) → AllRun (after_options o) rs → AllRun no_lines (option_lines o ++ rs)
options_run o rs h =
    let w = within o.segment_rows o.flush_rows o.fanout o.cache o.within in
    let a : is_option (codes "segment_rows") o.segment_rows ≡ true = rw w.segment_rows refl in
    let b : is_option (codes "flush_rows") o.flush_rows ≡ true = rw w.flush_rows refl in
    let c : is_option (codes "fanout") o.fanout ≡ true = rw w.fanout refl in
    let d : is_option (codes "cache") o.cache ≡ true = rw w.cache refl in
    let e : is_option (codes "workers") (workers_number o.workers) ≡ true = workers_option o.workers in (
      option_fine (given ([])) (codes "segment_rows") o.segment_rows refl (small 1 8192 o.segment_rows (omega arith) w.segment_rows) (rw a refl) refl,
      (
        option_fine (given (codes "segment_rows" ∷ [])) (codes "flush_rows") o.flush_rows refl (small 1 65536 o.flush_rows (omega arith) w.flush_rows) (rw b refl) refl,
        (
          option_fine (given (codes "segment_rows" ∷ codes "flush_rows" ∷ [])) (codes "fanout") o.fanout refl (small 2 16 o.fanout (omega arith) w.fanout) (rw c refl) refl,
          (
            option_fine (given (codes "segment_rows" ∷ codes "flush_rows" ∷ codes "fanout" ∷ [])) (codes "cache") o.cache refl (small 1 32 o.cache (omega arith) w.cache) (rw d refl) refl,
            (option_fine (given (codes "segment_rows" ∷ codes "flush_rows" ∷ codes "fanout" ∷ codes "cache" ∷ [])) (codes "workers") (workers_number o.workers) refl (workers_small o.workers) (rw e refl) refl, h),
          ),
        ),
      ),
    )

-- ---- what they set

workers_set : (b : Bool) → is_chosen (codes "workers") (workers_number b) true ≡ b
workers_set true = refl
workers_set false = refl

given_is : (o : Options) → with_option (codes "workers") (workers_number o.workers) (with_option (codes "cache") o.cache (with_option (codes "fanout") o.fanout (with_option (codes "flush_rows") o.flush_rows (with_option (codes "segment_rows") o.segment_rows start.given)))) ≡ given_of o
given_is o =
    let w = within o.segment_rows o.flush_rows o.fanout o.cache o.within in
    rw (w.segment_rows, w.flush_rows, w.fanout, w.cache, workers_set o.workers) refl

-- the draft after the options
abbrev pub optioned : Options → Draft
optioned o = record { given = given_of o; table = None; lines = [] }

pub options_drafted : (o : Options) (rs : List Line) → all_drafted (option_lines o ++ rs) start ≡ all_drafted rs (optioned o)
options_drafted o rs = ap (λ (g : Given). all_drafted rs (record { given = g; table = None; lines = [] })) (given_is o)
