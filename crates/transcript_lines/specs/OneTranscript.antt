-- An input has one transcript: what the promises say of the lines settles them to the byte.
use Rattle.std.specs.Prelude.{Bool, List, ◌++◌, ◌≡◌, refl, ℕ, suc}
use Rattle.std.proofs.Common.{sym, ap₂, ◌∙◌, arith}
use Rattle.roles.specs.Role.{Chain}
use Rattle.roles.specs.Rule.{Book}
use Rattle.base.specs.Result.{Result}
use Rattle.base.specs.Result.Result.{refused, ok}
use Rattle.base.specs.ResultLaws.{refused-ok}
use Rattle.book_causes.specs.Accepted.{summary}
use Rattle.book_causes.specs.AcceptedLaws.{building_one}
use Rattle.query_correctness.specs.BindingReply.{DecidedByBinding}
use Rattle.query_correctness.specs.OneReply.{decided_by-binding-one}
use Rattle.transcript_lines.specs.Lines.{first_line, answer_line}
use Rattle.transcript_lines.specs.Transcript.{Transcript, Session}
use Rattle.transcript_lines.specs.Transcript.Next.{nothing, part, whole}
use Rattle.transcript_lines.specs.Transcript.Transcript.{ended, cut, answered}
use Rattle.transcript_lines.specs.Transcript.Session.{refuses, served}

nothing-part : nothing ≡ part → ⊥
nothing-part h = let z : ◌≡◌ {A = ℕ} 0 1 = cc in omega arith

pub nothing-whole : (r : ℕ) (w : Chain) (rest : List ℕ) → nothing ≡ whole r w rest → ⊥
nothing-whole r w rest h = let z : ◌≡◌ {A = ℕ} 0 1 = cc in omega arith

pub part-whole : (r : ℕ) (w : Chain) (rest : List ℕ) → part ≡ whole r w rest → ⊥
part-whole r w rest h = let z : ◌≡◌ {A = ℕ} 0 1 = cc in omega arith

-- where the answers are one, so are the lines
module _ (Says : ℕ → Chain → Result Bool → Type 0)
    (one : (r : ℕ) (w : Chain) (a a' : Result Bool) → Says r w a → Says r w a' → a ≡ a') where
  pub transcript-one : (k : ℕ) (q lines lines' : List ℕ) → Transcript Says k q lines → Transcript Says k q lines' → lines ≡ lines'
  transcript-one k q _ _ (ended _ _ h) (ended _ _ g) = refl
  transcript-one k q _ _ (ended _ _ h) (cut _ _ g) = absurd (nothing-part (sym h ∙ g))
  transcript-one k q _ _ (ended _ _ h) (answered _ _ r w rest a lines g says more) = absurd (nothing-whole r w rest (sym h ∙ g))
  transcript-one k q _ _ (cut _ _ h) (ended _ _ g) = absurd (nothing-part (sym g ∙ h))
  transcript-one k q _ _ (cut _ _ h) (cut _ _ g) = refl
  transcript-one k q _ _ (cut _ _ h) (answered _ _ r w rest a lines g says more) = absurd (part-whole r w rest (sym h ∙ g))
  transcript-one k q _ _ (answered _ _ r w rest a lines h says more) (ended _ _ g) = absurd (nothing-whole r w rest (sym g ∙ h))
  transcript-one k q _ _ (answered _ _ r w rest a lines h says more) (cut _ _ g) = absurd (part-whole r w rest (sym g ∙ h))
  transcript-one k q _ _ (answered _ _ r w rest a lines h says more) (answered _ _ r' w' rest' a' lines' g says' more') =
      let e : whole r' w' rest' ≡ whole r w rest = sym g ∙ h in
      let role : r' ≡ r = cc in
      let chain : w' ≡ w = cc in
      let after : rest' ≡ rest = cc in
      ap₂ (λ (x : Result Bool) (l : List ℕ). answer_line k x ++ l) (one r w a a' says (rw (role, chain) at says'))
      (transcript-one (suc k) rest lines lines' more (rw after at more'))

-- and all that the program writes
pub session-one : (s q out out' : List ℕ) → Session s q out → Session s q out' → out ≡ out'
session-one s q _ _ (refuses c v h) (refuses d u g) =
    let e : ◌≡◌ {A = Result Book} (refused c v) (refused d u) = sym h ∙ g in
    let cause : c ≡ d = cc in
    let value : v ≡ u = cc in
    rw (cause, value) refl
session-one s q _ _ (refuses c v h) (served b d lines g t) = absurd (refused-ok c v d (sym h ∙ g.source))
session-one s q _ _ (served b d lines h t) (refuses c v g) = absurd (refused-ok c v d (sym g ∙ h.source))
session-one s q _ _ (served b d lines h t) (served b' d' lines' g t') =
    let same = building_one h g in
    let rest : lines ≡ lines' = transcript-one (DecidedByBinding b) (decided_by-binding-one b) 0 q lines lines' t (rw (← same.0) at t') in
    ap₂ (λ (x : Book) (l : List ℕ). first_line (ok (summary x)) ++ l) same.1 rest
