-- Document 01's starred examples in one table: the bytes of a book, what a build of it gives, questions about it with their answers, and all
-- that the program writes for the book and an input, byte for byte. The tables lent are as long as any book needs: 64 heads, and 3 numbers
-- for each of 5,120 transitions.
use Rattle.std.specs.Prelude.{Bool, true, false, List, [], ◌∷◌, ◌≡◌, ℕ}
use Rattle.roles.specs.Role.{Chain}
use Rattle.roles.specs.Rule.{Book}
use Rattle.base.specs.Result.{Result, map_result}
use Rattle.base.specs.Result.Result.{refused, ok}
use Rattle.book_causes.specs.Accepted.{summary, heads_of, built, written}
use Rattle.base.specs.Every.{Every}
use Rattle.query_correctness.specs.Reply.{Replied}
use Rattle.transcript_lines.specs.Transcript.{Session}

pub record Question : Type 0 where
  pub role : ℕ
  pub chain : Chain
  pub answer : Result Bool

-- first: the numbers of states and transitions and the depth, or the refusal's number and value; heads: the initial states written, none where refused;
-- input: the bytes on standard input; transcript: the bytes that the program writes
pub record Example : Type 0 where
  pub book : List ℕ
  pub first : Result (ℕ × (ℕ × ℕ))
  pub heads : List ℕ
  pub questions : List Question
  pub input : List ℕ
  pub transcript : List ℕ

-- the bytes of a book: the mark, version 1, how many names and rules, and the rules
abbrev bytes : (names rules : ℕ) → List ℕ → List ℕ
bytes n k rules = 0x52 ∷ 0x4C ∷ 0x42 ∷ 0x01 ∷ 0x00 ∷ n ∷ k ∷ 0x00 ∷ rules

abbrev ask : ℕ → Chain → Result Bool → Question
ask r w a = record { role = r; chain = w; answer = a }

-- "book refused ", a digit, a space and a digit: the line of a refused book
abbrev refused_line : (cause-digit value-digit : ℕ) → List ℕ
refused_line c v =
    0x62 ∷ 0x6F ∷ 0x6F ∷ 0x6B ∷ 0x20 ∷ 0x72 ∷ 0x65 ∷ 0x66 ∷ 0x75 ∷ 0x73 ∷ 0x65 ∷ 0x64 ∷ 0x20
    ∷ c ∷ 0x20 ∷ v ∷ 0x0A ∷ []

-- a book that is refused: the program writes one line, and the question on the input, the chain R asked about R, stays unanswered
abbrev refusal : List ℕ → (cause value : ℕ) → List ℕ → Example
refusal s c v line =
    record {
      book = s;
      first = refused c v;
      heads = [];
      questions = [];
      input = 0x00 ∷ 0x01 ∷ 0x00 ∷ 0x00 ∷ [];
      transcript = line;
    }

unfoldable pub examples : List Example
examples =
    -- the hall book: part part to part; part sits to sits; sits let to due
    record {
      book =
          bytes 0x04 0x03
          (0x00 ∷ 0x02 ∷ 0x00 ∷ 0x00
          ∷ 0x02 ∷ 0x02 ∷ 0x00 ∷ 0x02
          ∷ 0x06 ∷ 0x02 ∷ 0x02 ∷ 0x04
          ∷ []);
      first = ok (16, (18, 3));
      heads = 0 ∷ 2 ∷ 6 ∷ 8 ∷ [];
      questions =
          -- the five questions put to the program
          ask 0x06 (0x00 ∷ 0x00 ∷ 0x02 ∷ 0x04 ∷ []) (ok true)
          ∷ ask 0x06 (0x02 ∷ 0x00 ∷ 0x04 ∷ []) (ok false)
          ∷ ask 0x07 (0x05 ∷ 0x03 ∷ 0x01 ∷ []) (ok true)
          ∷ ask 0x06 [] (refused 13 0)
          ∷ ask 0x06 (0x08 ∷ []) (refused 14 0)
          -- due from due
          ∷ ask 0x06 (0x06 ∷ []) (ok true)
          -- sits from part, read as due from due is: the chain sits, asked about part
          ∷ ask 0x00 (0x02 ∷ []) (ok false)
          ∷ [];
      -- the five questions
      input =
          0x06 ∷ 0x04 ∷ 0x00 ∷ 0x00 ∷ 0x00 ∷ 0x02 ∷ 0x04
          ∷ 0x06 ∷ 0x03 ∷ 0x00 ∷ 0x02 ∷ 0x00 ∷ 0x04
          ∷ 0x07 ∷ 0x03 ∷ 0x00 ∷ 0x05 ∷ 0x03 ∷ 0x01
          ∷ 0x06 ∷ 0x00 ∷ 0x00
          ∷ 0x06 ∷ 0x01 ∷ 0x00 ∷ 0x08
          ∷ [];
      -- the six lines
      transcript =
          -- book 16 18 3
          0x62 ∷ 0x6F ∷ 0x6F ∷ 0x6B ∷ 0x20 ∷ 0x31 ∷ 0x36 ∷ 0x20 ∷ 0x31 ∷ 0x38 ∷ 0x20 ∷ 0x33 ∷ 0x0A
          -- 0 yes
          ∷ 0x30 ∷ 0x20 ∷ 0x79 ∷ 0x65 ∷ 0x73 ∷ 0x0A
          -- 1 no
          ∷ 0x31 ∷ 0x20 ∷ 0x6E ∷ 0x6F ∷ 0x0A
          -- 2 yes
          ∷ 0x32 ∷ 0x20 ∷ 0x79 ∷ 0x65 ∷ 0x73 ∷ 0x0A
          -- 3 refused 13
          ∷ 0x33 ∷ 0x20 ∷ 0x72 ∷ 0x65 ∷ 0x66 ∷ 0x75 ∷ 0x73 ∷ 0x65 ∷ 0x64 ∷ 0x20 ∷ 0x31 ∷ 0x33 ∷ 0x0A
          -- 4 refused 14
          ∷ 0x34 ∷ 0x20 ∷ 0x72 ∷ 0x65 ∷ 0x66 ∷ 0x75 ∷ 0x73 ∷ 0x65 ∷ 0x64 ∷ 0x20 ∷ 0x31 ∷ 0x34 ∷ 0x0A
          ∷ [];
    }
    -- R to R as rule 0
    ∷ refusal (bytes 0x01 0x01 (0x00 ∷ 0x01 ∷ 0x00 ∷ [])) 8 0 (refused_line 0x38 0x30)
    -- S to R, then R to S
    ∷ refusal (bytes 0x02 0x02 (0x00 ∷ 0x01 ∷ 0x02 ∷ 0x02 ∷ 0x01 ∷ 0x00 ∷ [])) 8 1 (refused_line 0x38 0x31)
    -- inv(R) to R, then R to inv(R)
    ∷ refusal (bytes 0x01 0x02 (0x00 ∷ 0x01 ∷ 0x01 ∷ 0x01 ∷ 0x01 ∷ 0x00 ∷ [])) 7 1 (refused_line 0x37 0x31)
    -- one name, no rule
    ∷ record {
      book = bytes 0x01 0x00 [];
      first = ok (2, (1, 1));
      heads = 0 ∷ [];
      questions = [];
      input = [];
      -- book 2 1 1
      transcript = 0x62 ∷ 0x6F ∷ 0x6F ∷ 0x6B ∷ 0x20 ∷ 0x32 ∷ 0x20 ∷ 0x31 ∷ 0x20 ∷ 0x31 ∷ 0x0A ∷ [];
    }
    -- no name
    ∷ refusal (bytes 0x00 0x00 []) 4 0 (refused_line 0x34 0x30)
    ∷ []

-- what a build of the book gives
abbrev pub build : Example → Result Book
build e = built e.book 64 15360

-- what the table says of an example is so
pub record Holds (e : Example) : Type 0 where
  pub first : map_result summary (build e) ≡ e.first
  pub heads : written (build e) heads_of [] ≡ e.heads
  pub questions : Every (λ (q : Question). Replied e.book 64 15360 q.role q.chain q.answer) e.questions
  pub session : Session e.book e.input e.transcript
