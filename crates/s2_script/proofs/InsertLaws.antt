-- The front of a line's bytes, read one part after the other.
use Rattle.std.proofs.Common.{◌≡◌, ℕ, true, List, [], ◌∷◌, ◌++◌, Option, Some, None, refl, sym, ap, ◌∙◌, arith, inl, inr, append_assoc}
use Rattle.std.specs.Option.{option_map}
use Rattle.std.proofs.lemmas.List.{append-nil}
use Rattle.s2_token.specs.declared.types.Token.{Token}
use Rattle.s2_token.specs.declared.types.Token.TheVariants as token
use Rattle.s2_token.specs.declared.types.Keyword.{Keyword}
use Rattle.s2_token.specs.declared.types.Keyword.TheVariants as keyword
use Rattle.s2_token.specs.declared.types.Symbol.TheVariants as symbol
use Rattle.s2_token.specs.contracts.types.Keyword.{the_type as keyword_type}
use denote.Enum.Bare.{same_true, sameb}
use Rattle.s2_token.specs.Lexing.{lexed}
use Rattle.s2_token.specs.declared.types.Literal.{Literal}
use Rattle.s2_line.specs.Words.{AreSome, TupleFits, listed, tuple_words}
use Rattle.s2_line.specs.declared.forms.RawOf.TheVariants as raw
use Rattle.s2_line.specs.declared.forms.RawStmtOf.TheVariants as stmt
use Rattle.s2_script.specs.Inserts.{AreRead, Begins, Ends, IsRead, head_words}

joined : (xs ys : List Token) (read : Option (List Token)) → option_map (λ l. xs ++ l) (option_map (λ l. ys ++ l) read) ≡ option_map (λ l. (xs ++ ys) ++ l) read
joined xs ys None = refl
joined xs ys (Some l) = ap (λ (ts : List Token). Some ts) (sym (append_assoc xs ys l))

-- one part and then another
pub both : (a : List ℕ) (xs : List Token) (b : List ℕ) (ys : List Token) (c : List ℕ) → Begins a xs b → Begins b ys c → Begins a (xs ++ ys) c
both a xs b ys c f g = record {
  lexes = f.lexes ∙ ap (option_map (λ l. xs ++ l)) g.lexes ∙ joined xs ys (lexed c);
  shorter = omega (arith, f.shorter, g.shorter);
}

-- two keywords that are told to be one
pub same_key : (j k : Keyword) → sameb keyword_type j k ≡ true → token.Key j ≡ token.Key k
same_key j k e = ap (λ (i : Keyword). token.Key i) (same_true keyword_type tt j k e)

-- a part between two tokens
pub enclosed : (a : List ℕ) (t : Token) (b : List ℕ) (xs : List Token) (c : List ℕ) (u : Token) (d : List ℕ)
    → Begins a (t ∷ []) b → Begins b xs c → Begins c (u ∷ []) d → Begins a (t ∷ (xs ++ u ∷ [])) d
enclosed a t b xs c u d f g h = both a (t ∷ []) b (xs ++ u ∷ []) d f (both b xs c (u ∷ []) d g h)

pub head_begins : (a : List ℕ) (session : ℕ) (b c d e : List ℕ) (table : List ℕ) (f g : List ℕ)
    → Begins a (token.Number session ∷ []) b → Begins b (token.Sign symbol.Colon ∷ []) c → Begins c (token.Key keyword.Insert ∷ []) d → Begins d (token.Key keyword.Into ∷ []) e
    → Begins e (token.Name table ∷ []) f → Begins f (token.Key keyword.Values ∷ []) g → Begins a (head_words session table) g
head_begins a session b c d e table f g h1 h2 h3 h4 h5 h6 =
    both a _ b _ g h1 (both b _ c _ g h2 (both c _ d _ g h3 (both d _ e _ g h4 (both e _ f _ g h5 h6))))

whole : (bytes : List ℕ) (session : ℕ) (table : List ℕ) (tuples : List (List Literal)) (left : List ℕ)
    → lexed bytes ≡ option_map (λ later. (head_words session table ++ listed tuple_words tuples) ++ later) (lexed left) → AreSome TupleFits tuples → Ends left
    → IsRead bytes (raw.Session session (stmt.Insert table tuples))
whole bytes session table tuples left e fit (inl none) =
    let front : List Token = head_words session table ++ listed tuple_words tuples in
    (front, e ∙ ap (option_map (λ later. front ++ later)) none ∙ ap (λ (ts : List Token). Some ts) (append-nil front), (fit, inl refl))
whole bytes session table tuples left e fit (inr last) =
    let front : List Token = head_words session table ++ listed tuple_words tuples in
    (front ++ token.Sign symbol.Semicolon ∷ [], e ∙ ap (option_map (λ later. front ++ later)) last, (fit, inr refl))

pub is_insert : (bytes : List ℕ) (session : ℕ) (table : List ℕ) (at : List ℕ) (tuples : List (List Literal)) (left : List ℕ)
    → Begins bytes (head_words session table) at → AreRead tuple_words TupleFits at tuples left → Ends left → IsRead bytes (raw.Session session (stmt.Insert table tuples))
is_insert bytes session table at tuples left head read ends =
    whole bytes session table tuples left (both bytes (head_words session table) at (listed tuple_words tuples) left head read.begins).lexes read.fit ends
