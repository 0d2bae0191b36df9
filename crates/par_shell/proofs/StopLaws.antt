-- Every reason to stop has one of the statuses that there are, and what is left of the reasons without a fault.
use Rattle.std.proofs.Common.{◌≡◌, ◌≢◌, ◌≤◌, ◌+◌, ◌⊎◌, inl, inr, ℕ, List, length, Option, None, Some, IfSome, IsNone, Contains, refl, sym, subst, ap, ◌∙◌, arith}
use Rattle.std.proofs.lemmas.List.{length-append}
use Rattle.par_io.specs.Reads.{ReadsCount}
use Rattle.par_shell.specs.declared.status.TheConstants.{ANSWERED, MISUSED, NO_MEMORY, READ_FAULT, TOO_LARGE}
use Rattle.par_shell.specs.Scripts.{statuses}
use Rattle.par_shell.specs.Stops.{status_of}
use Rattle.par_shell.specs.declared.stop.Stop.{Stop}
use Rattle.par_shell.specs.declared.stop.Stop.TheVariants.{Usage, ReadFault, WriteFault, Memory, TooLong}

has-status : (w : Stop) → Contains statuses (status_of w)
has-status Usage = (1, omega arith, refl)
has-status ReadFault = (2, omega arith, refl)
has-status WriteFault = (3, omega arith, refl)
has-status Memory = (4, omega arith, refl)
has-status TooLong = (5, omega arith, refl)

pub is-status : (w : Stop) (n : ℕ) → n ≡ status_of w → Contains statuses n
is-status w n e = subst (Contains statuses) (sym e) (has-status w)

-- what holds of a value that is there
pub if-some : {A : Type 0} (o : Option A) (P Q : A → Type 0) → ((x : A) → P x → Q x) → IfSome o P → IfSome o Q
if-some None P Q f h = tt
if-some (Some x) P Q f h = f x h

pub none-is : {A : Type 0} (o : Option A) → IsNone o → o ≡ None
none-is None is = refl
none-is (Some x) is = cc is

-- what was read is no longer than what was left
no-longer : (script : List ℕ) (new : Option (List ℕ)) (n : ℕ) → ReadsCount (Some script) new n → n ≤ length script
no-longer script None n reads = absurd reads.1
no-longer script (Some rest) n reads = let e : length script ≡ length reads.0 + length rest = ap length reads.1 ∙ length-append reads.0 rest in let c = reads.2 in omega arith

-- A reason that is no wrong word, no fault and no script above the limit is that memory ran out
pub is-memory : (w : Stop) (left new : Option (List ℕ)) → w ≢ Usage → w ≢ ReadFault → w ≢ WriteFault → (w ≡ TooLong → ReadsCount left new 1048577) → (n : ℕ) → n ≡ status_of w
    → IfSome left (λ script. length script ≤ 1048576 → (n ≡ NO_MEMORY) ⊎ (n ≡ ANSWERED))
is-memory w None new usage read write long n e = tt
is-memory Usage (Some script) new usage read write long n e = absurd (usage refl)
is-memory ReadFault (Some script) new usage read write long n e = absurd (read refl)
is-memory WriteFault (Some script) new usage read write long n e = absurd (write refl)
is-memory Memory (Some script) new usage read write long n e = λ short. inl e
is-memory TooLong (Some script) new usage read write long n e = λ short. let x = no-longer script new 1048577 (long refl) in absurd (omega (arith, short, x))

-- only a script above the limit has the status of one
pub is-long : (w : Stop) (n : ℕ) → n ≡ status_of w → n ≡ TOO_LARGE → w ≡ TooLong
is-long Usage n e t = absurd (omega (arith, e, t))
is-long ReadFault n e t = absurd (omega (arith, e, t))
is-long WriteFault n e t = absurd (omega (arith, e, t))
is-long Memory n e t = absurd (omega (arith, e, t))
is-long TooLong n e t = refl

-- the statuses of wrong words, of a read that failed and of a script above the limit are those of these reasons
pub one-of : (w : Stop) (n : ℕ) (A : Type 0) → n ≡ status_of w → (w ≡ Usage → A) → (w ≡ ReadFault → A) → (w ≡ TooLong → A) → (n ≡ MISUSED) ⊎ ((n ≡ READ_FAULT) ⊎ (n ≡ TOO_LARGE)) → A
one-of Usage n A e usage read long t = usage refl
one-of ReadFault n A e usage read long t = read refl
one-of TooLong n A e usage read long t = long refl
one-of WriteFault n A e usage read long (inl t) = absurd (omega (arith, e, t))
one-of WriteFault n A e usage read long (inr (inl t)) = absurd (omega (arith, e, t))
one-of WriteFault n A e usage read long (inr (inr t)) = absurd (omega (arith, e, t))
one-of Memory n A e usage read long (inl t) = absurd (omega (arith, e, t))
one-of Memory n A e usage read long (inr (inl t)) = absurd (omega (arith, e, t))
one-of Memory n A e usage read long (inr (inr t)) = absurd (omega (arith, e, t))
