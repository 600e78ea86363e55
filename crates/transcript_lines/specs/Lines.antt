-- The lines that the program writes (document 01, "The hall book (worked)"), as bytes.
use Rattle.std.specs.Prelude.{Bool, true, false, cond, List, [], ◌∷◌, ◌++◌, ℕ, zero, suc, ◌+◌, ◌/◌, ◌%◌, ltb}
use Rattle.base.specs.Result.{Result}
use Rattle.base.specs.Result.Result.{refused, ok}

-- the decimal digits of a number that has at most so many, the first digit first
unfoldable pub decimal_from : ℕ → ℕ → List ℕ
decimal_from zero n = []
decimal_from (suc k) n = cond (ltb n 10) ((48 + n) ∷ []) (decimal_from k (n / 10) ++ ((48 + n % 10) ∷ []))

-- the decimal digits of a number of 64 bits
unfoldable pub decimal : ℕ → List ℕ
decimal n = decimal_from 20 n

-- "book ", "book refused ", " ", " yes", " no", " refused ", " cut" and the end of a line
abbrev pub book_word : List ℕ
book_word = 0x62 ∷ 0x6F ∷ 0x6F ∷ 0x6B ∷ 0x20 ∷ []

abbrev pub book_refused_word : List ℕ
book_refused_word = 0x62 ∷ 0x6F ∷ 0x6F ∷ 0x6B ∷ 0x20 ∷ 0x72 ∷ 0x65 ∷ 0x66 ∷ 0x75 ∷ 0x73 ∷ 0x65 ∷ 0x64 ∷ 0x20 ∷ []

abbrev pub space : List ℕ
space = 0x20 ∷ []

abbrev pub yes_word : List ℕ
yes_word = 0x20 ∷ 0x79 ∷ 0x65 ∷ 0x73 ∷ 0x0A ∷ []

abbrev pub no_word : List ℕ
no_word = 0x20 ∷ 0x6E ∷ 0x6F ∷ 0x0A ∷ []

abbrev pub refused_word : List ℕ
refused_word = 0x20 ∷ 0x72 ∷ 0x65 ∷ 0x66 ∷ 0x75 ∷ 0x73 ∷ 0x65 ∷ 0x64 ∷ 0x20 ∷ []

abbrev pub cut_word : List ℕ
cut_word = 0x20 ∷ 0x63 ∷ 0x75 ∷ 0x74 ∷ 0x0A ∷ []

abbrev pub end_line : List ℕ
end_line = 0x0A ∷ []

-- the first line: the numbers of states and transitions and the depth, or the refusal by its number and second value
abbrev pub first_line : Result (ℕ × (ℕ × ℕ)) → List ℕ
first_line (ok (states, (transitions, depth))) =
    book_word ++ decimal states ++ space ++ decimal transitions ++ space ++ decimal depth ++ end_line
first_line (refused cause value) = book_refused_word ++ decimal cause ++ space ++ decimal value ++ end_line

-- the line of question k: yes, no or the number of the refusal
abbrev pub answer_line : ℕ → Result Bool → List ℕ
answer_line k (ok true) = decimal k ++ yes_word
answer_line k (ok false) = decimal k ++ no_word
answer_line k (refused cause value) = decimal k ++ (refused_word ++ decimal cause ++ end_line)

-- the line of question k where the input ends inside it
abbrev pub cut_line : ℕ → List ℕ
cut_line k = decimal k ++ cut_word
