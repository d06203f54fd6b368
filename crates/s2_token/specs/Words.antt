-- Words, keywords and names.
use Rattle.std.specs.Prelude.{ℕ, Bool, false, List, [], ◌∷◌, Option, nat_le, not, ◌&&◌, ◌||◌, ◌==◌, codes}
use Rattle.std.specs.List.{find, list_all}
use Rattle.std.specs.Option.{is_some}
use Rattle.std.specs.Str.{str_eq_ignore_ascii_case}
use Rattle.s2_token.specs.declared.types.Keyword.{Keyword}
use Rattle.s2_token.specs.declared.types.Keyword.TheVariants as keyword

-- a letter or an underscore
abbrev pub is_word_start : ℕ → Bool
is_word_start b = (nat_le 65 b && nat_le b 90) || (nat_le 97 b && nat_le b 122) || (b == 95)

abbrev pub is_digit : ℕ → Bool
is_digit b = nat_le 48 b && nat_le b 57

abbrev pub is_word_byte : ℕ → Bool
is_word_byte b = is_word_start b || is_digit b

-- a letter or an underscore, then letters, digits and underscores
abbrev pub is_word : List ℕ → Bool
is_word [] = false
is_word (b ∷ bs) = is_word_start b && list_all is_word_byte bs

-- how a keyword is printed
unfoldable pub keyword_text : Keyword → List ℕ
keyword_text keyword.Create = codes "CREATE"
keyword_text keyword.Table = codes "TABLE"
keyword_text keyword.Int = codes "INT"
keyword_text keyword.Text = codes "TEXT"
keyword_text keyword.Unique = codes "UNIQUE"
keyword_text keyword.Key = codes "KEY"
keyword_text keyword.Sort = codes "SORT"
keyword_text keyword.Option = codes "OPTION"
keyword_text keyword.Insert = codes "INSERT"
keyword_text keyword.Into = codes "INTO"
keyword_text keyword.Values = codes "VALUES"
keyword_text keyword.Update = codes "UPDATE"
keyword_text keyword.Set = codes "SET"
keyword_text keyword.Where = codes "WHERE"
keyword_text keyword.Delete = codes "DELETE"
keyword_text keyword.From = codes "FROM"
keyword_text keyword.Select = codes "SELECT"
keyword_text keyword.Order = codes "ORDER"
keyword_text keyword.By = codes "BY"
keyword_text keyword.Asc = codes "ASC"
keyword_text keyword.Desc = codes "DESC"
keyword_text keyword.Limit = codes "LIMIT"
keyword_text keyword.Count = codes "COUNT"
keyword_text keyword.Sum = codes "SUM"
keyword_text keyword.Min = codes "MIN"
keyword_text keyword.Max = codes "MAX"
keyword_text keyword.And = codes "AND"
keyword_text keyword.Or = codes "OR"
keyword_text keyword.Not = codes "NOT"
keyword_text keyword.In = codes "IN"
keyword_text keyword.Begin = codes "BEGIN"
keyword_text keyword.Read = codes "READ"
keyword_text keyword.Only = codes "ONLY"
keyword_text keyword.Commit = codes "COMMIT"
keyword_text keyword.Rollback = codes "ROLLBACK"
keyword_text keyword.Flush = codes "FLUSH"
keyword_text keyword.End = codes "END"
keyword_text keyword.Merge = codes "MERGE"
keyword_text keyword.Upload = codes "UPLOAD"
keyword_text keyword.Evict = codes "EVICT"
keyword_text keyword.Vacuum = codes "VACUUM"
keyword_text keyword.Mark = codes "MARK"
keyword_text keyword.After = codes "AFTER"
keyword_text keyword.Null = codes "NULL"
keyword_text keyword.Is = codes "IS"
keyword_text keyword.Group = codes "GROUP"
keyword_text keyword.Ignore = codes "IGNORE"
keyword_text keyword.Replace = codes "REPLACE"
keyword_text keyword.On = codes "ON"
keyword_text keyword.Duplicate = codes "DUPLICATE"
keyword_text keyword.Draft = codes "DRAFT"
keyword_text keyword.Settle = codes "SETTLE"

-- every keyword
unfoldable pub keywords : List Keyword
keywords =
    keyword.Create ∷ keyword.Table ∷ keyword.Int ∷ keyword.Text ∷ keyword.Unique ∷ keyword.Key ∷ keyword.Sort ∷ keyword.Option
    ∷ keyword.Insert ∷ keyword.Into ∷ keyword.Values ∷ keyword.Update ∷ keyword.Set ∷ keyword.Where ∷ keyword.Delete ∷ keyword.From
    ∷ keyword.Select ∷ keyword.Order ∷ keyword.By ∷ keyword.Asc ∷ keyword.Desc ∷ keyword.Limit ∷ keyword.Count ∷ keyword.Sum
    ∷ keyword.Min ∷ keyword.Max ∷ keyword.And ∷ keyword.Or ∷ keyword.Not ∷ keyword.In ∷ keyword.Begin ∷ keyword.Read
    ∷ keyword.Only ∷ keyword.Commit ∷ keyword.Rollback ∷ keyword.Flush ∷ keyword.End ∷ keyword.Merge ∷ keyword.Upload ∷ keyword.Evict
    ∷ keyword.Vacuum ∷ keyword.Mark ∷ keyword.After ∷ keyword.Null ∷ keyword.Is ∷ keyword.Group ∷ keyword.Ignore ∷ keyword.Replace
    ∷ keyword.On ∷ keyword.Duplicate ∷ keyword.Draft ∷ keyword.Settle ∷ []

-- the keyword that the word is, in any case
unfoldable pub keyword_of : List ℕ → Option Keyword
keyword_of word = find (λ k. str_eq_ignore_ascii_case (keyword_text k) word) keywords

-- a name is a word that is no keyword
abbrev pub is_name : List ℕ → Bool
is_name word = is_word word && not (is_some (keyword_of word))
