-- A question has one answer: what the promises say of an answer settles it.
use Rattle.std.specs.Prelude.{Bool, List, ◌≡◌, ℕ}
use Rattle.roles.specs.Role.{Chain}
use Rattle.roles.specs.Rule.{Book}
use Rattle.base.specs.Result.{Result}
use Rattle.base.specs.DecisionLaws.{same-refusal, not_both, decision_one}
use Rattle.book_causes.specs.AcceptedLaws.{building_one}
use Rattle.query_causes.specs.Query.{Answered}
use Rattle.query_correctness.specs.BindingReply.{DecidedByBinding}
use Rattle.query_correctness.specs.Reply.{Decided, Replied}
use Rattle.query_correctness.specs.Reply.Replied.{refuses, settled}

-- about tables
pub answered-one : (heads moves : List ℕ) (r : ℕ) (w : Chain) (a a' : Result Bool) → Answered heads moves r w a → Answered heads moves r w a' → a ≡ a'
answered-one heads moves r w = decision_one _ _

-- about an accepted book
pub decided_one : (b : Book) (r : ℕ) (w : Chain) (a a' : Result Bool) → Decided b r w a → Decided b r w a' → a ≡ a'
decided_one b r w = decision_one _ _

pub decided_by-binding-one : (b : Book) (r : ℕ) (w : Chain) (a a' : Result Bool) → DecidedByBinding b r w a → DecidedByBinding b r w a' → a ≡ a'
decided_by-binding-one b r w = decision_one _ _

-- from a book's bytes
pub replied-one : (s : List ℕ) (heads moves r : ℕ) (w : Chain) (a a' : Result Bool) → Replied s heads moves r w a → Replied s heads moves r w a'
    → a ≡ a'
replied-one s heads moves r w _ _ (refuses c v h) (refuses d u g) = same-refusal _ c v d u h g
replied-one s heads moves r w _ _ (refuses c v h) (settled b d a g t) = not_both _ c v d h g.source
replied-one s heads moves r w _ _ (settled b d a h t) (refuses c v g) = not_both _ c v d g h.source
replied-one s heads moves r w _ _ (settled b d a h t) (settled b' d' a' g u) = decided_one b r w a a' t (rw (building_one g h).0 at u)
