-- What a reply says in document 01's numbers, and what the call that builds and asks promises.
use Rattle.std.specs.Prelude.{Bool, List, ◌≡◌, ℕ, length}
use Rattle.std.specs.Prelude.{Result as Answer}
use Rattle.roles.specs.Role.{Chain}
use Rattle.base.specs.Result.{Result}
use Rattle.book_causes.specs.Accepted.{heads_of, moves_of, written}
use Rattle.query_correctness.specs.Reply.{Replied, posed}
use Rattle.refusals.specs.Said.{said}
use Rattle.query_deriver.specs.declared.refusal.DerivedRefusal.{DerivedRefusal}
use Rattle.query_deriver.specs.DerivedRefusals.{derived_cause, derived_value}

-- yes, no, or why the question is refused
abbrev pub Reply : Type 0
Reply = Answer Bool DerivedRefusal

-- the same in document 01's numbers
abbrev pub says : Reply → Result Bool
says = said derived_cause derived_value

-- demand 3, and what the lent tables then hold: those of the book that the question is put to, and where it or the book is refused, what they held
pub record Replies (s h m : List ℕ) (r : ℕ) (w : Chain) (h' m' : List ℕ) (a : Reply) : Type 0 where
  pub answer : Replied s (length h) (length m) r w (says a)
  pub heads : h' ≡ written (posed s (length h) (length m) r w) heads_of h
  pub moves : m' ≡ written (posed s (length h) (length m) r w) moves_of m
