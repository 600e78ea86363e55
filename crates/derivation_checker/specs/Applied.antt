-- What a step leaves: the chain that is the front of some links, with a left side in the place of one of them.
use Rattle.std.specs.Prelude.{true, false, List, Option, MatchOption, ◌++◌, ◌≡◌, ℕ, suc, ◌+◌, ◌-◌, ◌≤◌, length, take, drop}
use Rattle.roles.specs.Role.{Chain}
use Rattle.roles.specs.Rule.{Rule}
use Rattle.derivation_steps.specs.declared.WrittenStep.{WrittenStep}
use Rattle.derivation_steps.specs.WrittenSteps.{possible, replaced}
use Rattle.book_questions.specs.RuleTable.{Rules}

-- a chain in which a left side stands for the link at a place
abbrev pub inserted : Chain → ℕ → Chain → Chain
inserted w place left = take place w ++ (left ++ drop (suc place) w)

-- the first links, so many, are a chain; then it stands there with the left side inserted
pub record Inserted (links : List ℕ) (size place : ℕ) (left links' : List ℕ) : Type 0 where
  pub room : length links' ≡ length links
  pub chain : take (size + length left - 1) links' ≡ inserted (take size links) place left

-- what a step is taken on: a table of so many rules over some roles, and 16 links of which so many are the chain
pub record Ready (table : List ℕ) (count : ℕ) (links : List ℕ) (size : ℕ) : Type 0 where
  pub roles : ℕ
  pub rules : Rules table count roles
  pub room : length links ≡ 16
  pub few : size ≤ 16

-- a step that was taken on a chain: the first links, so many, are the chain after it
pub record Taken (count : ℕ) (rule : (number side : ℕ) → Rule) (t : WrittenStep) (w : Chain) (links' : List ℕ) (size' : ℕ) : Type 0 where
  pub possible : possible count rule t w ≡ true
  pub some : 1 ≤ size'
  pub few : size' ≤ 16
  pub chain : take size' links' ≡ replaced count rule t w

-- what a step leaves of a chain: no size where it is impossible, else the chain after it
pub record Applied (count : ℕ) (rule : (number side : ℕ) → Rule) (t : WrittenStep) (w : Chain) (links' : List ℕ) (size' : Option ℕ) : Type 0 where
  pub room : length links' ≡ 16
  pub after : MatchOption size' (possible count rule t w ≡ false) (Taken count rule t w links')
