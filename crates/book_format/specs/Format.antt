-- What a book is and when a byte string is refused: document 01, "Book file" and causes 1 to 7.
use Rattle.std.specs.Prelude.{Bool, true, false, not, cond, ◌&&◌, ◌||◌, List, [], ◌∷◌, ◌++◌, ℕ, zero, suc, ◌*◌, leb, ltb, eqb, length, get_or, take, drop}
use Rattle.roles.specs.Role.{Chain, same_chain}
use Rattle.roles.specs.Rule.{Rule, Book, inverse, same_rule}
use Rattle.words.specs.Word.{word}
use Rattle.base.specs.Result.{Result, demand, and_then}
use Rattle.base.specs.Result.Result.{refused, ok}

-- the mark RLB
abbrev pub mark : List ℕ
mark = 0x52 ∷ 0x4C ∷ 0x42 ∷ []

-- what stands at the front of some bytes: a whole rule and the bytes after it, or no rule
pub data Front : Type 0 where
  whole : Rule → List ℕ → Front
  malformed : Front

-- a rule is its right role, its length, 1 to 8, and as many left roles
unfoldable pub front : List ℕ → Front
front [] = malformed
front (right ∷ []) = malformed
front (right ∷ size ∷ s) =
    cond (leb 1 size && leb size 8 && leb size (length s))
    (whole (record { left = take size s; right = right }) (drop size s))
    malformed

-- whether each role of the chain has a name below n
unfoldable pub named : ℕ → Chain → Bool
named n [] = true
named n (r ∷ w) = ltb r (2 * n) && named n w

-- a rule at the front, its roles, and what follows it: causes 5 and 6, in this order
unfoldable pub one_rule : (names number : ℕ) → (Rule → List ℕ → Result Book) → Front → Result Book
one_rule n number rest malformed = refused 5 number
one_rule n number rest (whole ρ s) = demand (named n (ρ.right ∷ ρ.left)) 6 number (rest ρ s)

-- the book that has the rules read so far and as many more as are left, which are all of the bytes
unfoldable pub rules_from : (names : ℕ) → List Rule → (left : ℕ) → List ℕ → Result Book
rules_from n read zero [] = ok (record { names = n; rules = read })
rules_from n read zero (b ∷ s) = refused 5 (length read)
rules_from n read (suc left) s = one_rule n (length read) (λ ρ rest. rules_from n (read ++ (ρ ∷ [])) left rest) (front s)

-- the tests of causes 1 to 4
abbrev pub size_fits : List ℕ → Bool
size_fits s = leb 8 (length s) && leb (length s) 2568

abbrev pub mark_fits : List ℕ → Bool
mark_fits s = same_chain (take 3 s) mark

abbrev pub version_fits : List ℕ → Bool
version_fits s = eqb (word s 3) 1

abbrev pub counts_fit : (names rules : ℕ) → Bool
counts_fit n k = leb 1 n && leb n 64 && leb k 256

-- causes 1 to 6
unfoldable pub decode : List ℕ → Result Book
decode s =
    demand (size_fits s) 1 0
    (demand (mark_fits s) 2 0
    (demand (version_fits s) 3 0
    (demand (counts_fit (get_or s 5 0) (word s 6)) 4 0
    (rules_from (get_or s 5 0) [] (word s 6) (drop 8 s)))))

-- whether the rule equals an earlier rule or an earlier rule's inverse
unfoldable pub repeats : Rule → List Rule → Bool
repeats ρ [] = false
repeats ρ (σ ∷ earlier) = same_rule ρ σ || same_rule ρ (inverse σ) || repeats ρ earlier

-- cause 7, by the lowest rule that repeats one before it
unfoldable pub distinct : (names : ℕ) → List Rule → List Rule → Result Book
distinct n earlier [] = ok (record { names = n; rules = earlier })
distinct n earlier (ρ ∷ later) = demand (not (repeats ρ earlier)) 7 (length earlier) (distinct n (earlier ++ (ρ ∷ [])) later)

-- the same of a book, wherever it comes from
abbrev pub distinct_book : Book → Result Book
distinct_book b = distinct b.names [] b.rules

-- causes 1 to 7: the well-formed book that the bytes are, or the first refusal met
unfoldable pub read : List ℕ → Result Book
read s = and_then (decode s) distinct_book
