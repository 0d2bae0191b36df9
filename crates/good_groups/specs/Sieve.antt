-- A source of which some lines are left out.
use Rattle.std.specs.Prelude.{◌≡◌, ℕ, List, None, Option, Some}
use Rattle.std.specs.Borrow.{GName}
use Rattle.good_groups.specs.Counted.{AreRules}
use Rattle.good_groups.specs.Opened.{Start, opened}
use Rattle.good_groups.specs.Sifting.{IsSifting}
use Rattle.good_groups.specs.declared.sifter.Rules.{Rules}
use Rattle.good_groups.specs.declared.sieve.Sifting.{Sifting}

-- what a reader sees of it: what is left, and how often a read failed
pub record Seen : Type 0 where
  pub left : Option (List ℕ)
  pub faults : ℕ

-- it is one of a reading that began, over the source to which this reference leads, and which has this left
abbrev pub IsSieve : Option Start → GName → Option (List ℕ) → Rules → Sifting → Type 0
IsSieve None name left r s = ⊥
IsSieve (Some start) name left r s = (name ≡ start.name) × (header : List (List ℕ)) × AreRules (opened start header) r × IsSifting (opened start header) left r s
