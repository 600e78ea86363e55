-- What each call tells of a book or a question, and what it leaves of the lent memory.
use Rattle.std.specs.Prelude.{Bool, List, ◌≡◌, ℕ, length, take}
use Rattle.roles.specs.Role.{Chain}
use Rattle.roles.specs.Rule.{Book}
use Rattle.base.specs.Result.{Result, map_result}
use Rattle.book_causes.specs.Ordered.{ordered}
use Rattle.book_causes.specs.Accepted.{states_of, count_of, levels_of, depth_of, heads_of, moves_of, built, written}
use Rattle.query_causes.specs.Query.{Answered}
use Rattle.query_correctness.specs.Reply.{Replied, posed}
use Rattle.book_questions.specs.Admission.{BookAnswer, answers}
use Rattle.derivation_writer.specs.WritesDerivation.{Derivation, writable, Writes}
use Rattle.network_writer.specs.WritesNetwork.{bindable, Answers}
use Rattle.call_numbers.specs.Tells.{Numbers, Tells, bit, derivation_numbers}

-- how many names and rules, and the depth
abbrev pub book_counts : Book → Numbers
book_counts b = record { one = b.names; two = length b.rules; three = 0 }

abbrev pub order_counts : Book → Numbers
order_counts b = record { one = b.names; two = length b.rules; three = depth_of b }

-- what the order check tells, and the lent levels: as many as are lent, over what they held
pub record TellsOrder (s l l' : List ℕ) (cause first second third : ℕ) : Type 0 where
  pub tells : Tells (map_result order_counts (ordered s)) cause first second third
  pub levels : l' ≡ written (ordered s) (λ (b : Book). take (length l) (levels_of b)) l

-- how many states and transitions, and the depth
abbrev pub table_counts : Book → Numbers
table_counts b = record { one = states_of b; two = count_of b; three = depth_of b }

-- what a build tells, and the lent tables
pub record TellsBuild (s h m h' m' : List ℕ) (cause first second third : ℕ) : Type 0 where
  pub tells : Tells (map_result table_counts (built s (length h) (length m))) cause first second third
  pub heads : h' ≡ written (built s (length h) (length m)) heads_of h
  pub moves : m' ≡ written (built s (length h) (length m)) moves_of m

-- the answer of tables
pub record TellsAnswer (h m : List ℕ) (r : ℕ) (w : Chain) (cause answer : ℕ) : Type 0 where
  pub said : Result Bool
  pub answered : Answered h m r w said
  pub tells : Tells (map_result bit said) cause answer 0 0

-- the answer from a book's bytes, and the lent tables: where the book or the question is refused, what they held
pub record TellsDerived (s h m : List ℕ) (r : ℕ) (w : Chain) (h' m' : List ℕ) (cause answer : ℕ) : Type 0 where
  pub said : Result Bool
  pub replied : Replied s (length h) (length m) r w said
  pub tells : Tells (map_result bit said) cause answer 0 0
  pub heads : h' ≡ written (posed s (length h) (length m) r w) heads_of h
  pub moves : m' ≡ written (posed s (length h) (length m) r w) moves_of m

-- a derivation that is asked for, and the lent bytes
pub record TellsDerivation (s : List ℕ) (r : ℕ) (w : Chain) (old new : List ℕ) (cause first second : ℕ) : Type 0 where
  pub said : Derivation
  pub writes : Writes (writable (length old) s r w) r w old new said
  pub tells : Tells (derivation_numbers said) cause first second 0

-- whether a chain binds a role, and the lent bytes
pub record TellsBinding (s : List ℕ) (r : ℕ) (w : Chain) (old new : List ℕ) (cause answer : ℕ) : Type 0 where
  pub said : BookAnswer
  pub binding : Answers (bindable (length old) s r w) r w old new said
  pub tells : Tells (map_result bit (answers said)) cause answer 0 0
