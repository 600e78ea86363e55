-- What each check of causes 9 to 11 settles.
use Rattle.std.specs.Prelude.{◌&&◌, ◌≡◌, ℕ, ◌*◌, Ok, Err}
use Rattle.std.proofs.Math.Path.{refl}
use Rattle.std.proofs.Math.Dec.{leb}
use Rattle.refusals.specs.Check.{check, check-passed, check_failed}
use Rattle.refusals.specs.declared.check.Check.{Check}
use Rattle.refusals.specs.declared.check.Check.TheVariants.{Passed, Failed}
use Rattle.refusals.specs.declared.build.BuildRefusal.TheVariants.{States, Transitions, Short}
use Rattle.table_limits.specs.Limits.{limited}

module _ (names states transitions depth heads moves : ℕ) {s : Check} (few : s ≡ check (leb states 2048)) where
  pub limited-states : s ≡ Failed → Err States ≡ limited names states transitions depth heads moves
  unfolding limited
  limited-states f = rw (check_failed (leb states 2048) s few f) refl

  module _ (passed : s ≡ Passed) {t : Check} (few-transitions : t ≡ check (leb transitions 5120)) where
    pub limited-transitions : t ≡ Failed → Err Transitions ≡ limited names states transitions depth heads moves
    unfolding limited
    limited-transitions f = rw (check-passed (leb states 2048) s few passed, check_failed (leb transitions 5120) t few-transitions f) refl

    module _ (passed-transitions : t ≡ Passed) {l : Check} (long : l ≡ check (leb names heads && leb (3 * transitions) moves)) where
      pub limited-short : l ≡ Failed → Err Short ≡ limited names states transitions depth heads moves
      unfolding limited
      limited-short f =
          rw (
            check-passed (leb states 2048) s few passed,
            check-passed (leb transitions 5120) t few-transitions passed-transitions,
            check_failed (leb names heads && leb (3 * transitions) moves) l long f,
          ) refl

      pub limited-built : l ≡ Passed
          → Ok (record { names = names; states = states; transitions = transitions; depth = depth }) ≡ limited names states transitions depth heads moves
      unfolding limited
      limited-built f =
          rw (
            check-passed (leb states 2048) s few passed,
            check-passed (leb transitions 5120) t few-transitions passed-transitions,
            check-passed (leb names heads && leb (3 * transitions) moves) l long f,
          ) refl
