-- Bytes that are written one piece after another.
use Rattle.std.proofs.Common.{◌≡◌, ℕ, ◌+◌, List, ◌++◌, Option, Some, None, take, drop, sym, ap, ◌∙◌, append_assoc}
use Rattle.std.proofs.Math.Seq.{take-add}
use Rattle.std.specs.Io.KnownBytes.{Appends}

-- after i bytes, n more of the rest make the first i + n
pub Appends-take-add : (first before now : Option (List ℕ)) (bytes rest : List ℕ) (i n : ℕ) → rest ≡ drop i bytes
    → Appends first before (take i bytes) → Appends before now (take n rest) → Appends first now (take (i + n) bytes)
Appends-take-add None before now bytes rest i n cut wrote took = tt
Appends-take-add (Some xs) None now bytes rest i n cut wrote took = absurd wrote
Appends-take-add (Some xs) (Some ys) None bytes rest i n cut wrote took = took
Appends-take-add (Some xs) (Some ys) (Some zs) bytes rest i n cut wrote took =
    took ∙ ap (λ (front : List ℕ). front ++ take n rest) wrote ∙ append_assoc xs (take i bytes) (take n rest)
    ∙ ap (λ (back : List ℕ). xs ++ (take i bytes ++ take n back)) cut ∙ ap (λ (text : List ℕ). xs ++ text) (sym (take-add i n bytes))
