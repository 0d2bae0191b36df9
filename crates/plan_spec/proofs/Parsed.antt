-- What clap's parse tells of a command of which it states the matches and the faults in full, as those of the programs.
use Rattle.std.proofs.Common.{◌≡◌, ◌==◌, ◌&&◌, ◌∙◌, ℕ, Bool, true, false, List, [], ◌∷◌, arith, length, refl, ap, sym, inl, inr}
use Rattle.clap.proofs.OnLiterals.{clap_on_literals}
use Rattle.clap.specs.Words.{App, HasKind, HasMatchesOf, IsAmong, Kinds, fault_of, found_of, is_simple, is_simple_and_free, kind_of, matches_of, rows_of}
use Rattle.clap.specs.declared.error.Error.{Error}
use Rattle.clap.specs.declared.error.kind.ErrorKind.{ErrorKind}
use Rattle.clap.specs.declared.error.kind.ErrorKind.TheVariants as kind
use Rattle.clap.specs.declared.parser.matches.ArgMatches.{ArgMatches}
use Rattle.plan_spec.specs.Options.{is_command_line, pargather_command, parstream_command}

-- it states those of pargather
pub pargather_is_free : is_simple_and_free pargather_command ≡ true
unfolding clap_on_literals
pargather_is_free = refl

-- and those of parstream
pub parstream_is_free : is_simple_and_free parstream_command ≡ true
unfolding clap_on_literals
parstream_is_free = refl

left : (a b : Bool) → (a && b) ≡ true → a ≡ true
left true b e = refl
left false b e = e

-- words that are taken have the command's matches
pub matches_are : (app : App) (words : List (List ℕ)) (m : ArgMatches) → is_simple_and_free app ≡ true → HasMatchesOf app words m → rows_of (found_of m) ≡ matches_of app words
matches_are app words m free h = (h (left (is_simple app) _ free)).0

-- and no fault
pub taken : (app : App) (words : List (List ℕ)) → fault_of app words ≡ [] → is_command_line app words ≡ true
taken app words none = ap (λ (f : Kinds). length f == 0) none

some_fault : (k : ErrorKind) (faults : Kinds) → IsAmong k faults → (length faults == 0) ≡ false
some_fault k [] a = absurd a
some_fault k (x ∷ faults) a = grind arith

-- words that are refused, and not for want of memory, have a fault
pub refused : (app : App) (words : List (List ℕ)) (e : Error) → HasKind (fault_of app words) e → (kind_of e ≡ kind.OutOfMemory → ⊥) → is_command_line app words ≡ false
refused app words e h n = elim h [
  | inl m ↦ absurd (n m)
  | inr a ↦ some_fault (kind_of e) (fault_of app words) a
]

-- ---- a command that is one of these

-- words that it takes
pub taken_by : (app command : App) (words : List (List ℕ)) → app ≡ command → is_command_line app words ≡ true → is_command_line command words ≡ true
taken_by app command words e h = ap (λ (a : App). is_command_line a words) (sym e) ∙ h

-- words that it does not take
pub refused_by : (app command : App) (words : List (List ℕ)) → app ≡ command → is_command_line app words ≡ false → is_command_line command words ≡ false
refused_by app command words e h = ap (λ (a : App). is_command_line a words) (sym e) ∙ h
