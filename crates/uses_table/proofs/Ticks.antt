-- The visits of a round: what each found and left, and how many of them took their key out.
use Rattle.std.proofs.Common.{◌≡◌, ◌∙◌, ℕ, ◌+◌, ◌≤◌, ◌==◌, ◌&&◌, if◌then◌else◌, cond, Bool, true, false, List, [], ◌∷◌, ◌++◌, map, Option, Some, None, is_some, is_none, refl, ap, sym, arith, append_assoc, append-nil}
use Rattle.std.specs.List.{AllByRecursion, count_by}
use Rattle.std.proofs.lemmas.List.Sums.{sum_by-cons}
use Rattle.std.specs.Int.{from_bool}
use Rattle.std.specs.FinMap as fin
use Rattle.lock_book.specs.declared.view.Entry.{Entry}
use Rattle.lock_book.specs.History.{StartsWith, entry, last_of}
use Rattle.lock_book.specs.Told.{MakesAll}
use Rattle.dshash_core.specs.Cells.{KeyMap}
use Rattle.dshash_parts.specs.Legal.{PartitionLegal}
use Rattle.dshash_parts.specs.States.{PartitionState, fresh}
use Rattle.dshash_parts.specs.declared.histories.PartitionCalls.{PartitionCalls}
use Rattle.dshash_parts.specs.declared.histories.PartitionCalls.TheVariants.{Call}
use Rattle.dshash_parts.specs.declared.histories.PartitionReplies.{PartitionReplies}
use Rattle.dshash_parts.specs.declared.histories.PartitionReplies.TheVariants.{Made}
use Rattle.dshash_parts.proofs.Replays.{changed_here}
use Rattle.dshash_scan.specs.Visits.{Visit, turn_of}
use Rattle.uses_table.specs.Leases.{is_due, stepped, ticked}
use Rattle.uses_table.specs.Ticks.{LeaseEntry, WasTicked}
use Rattle.uses_table.specs.declared.lease.Lease.{Lease}
use Rattle.uses_table.specs.declared.lease.LeaseCall.TheVariants.{Tick}

-- 1 for a call that took its key out, and 0 for any other turn
abbrev pub freed_by : {S R : Type 0} → PartitionReplies S R → ℕ
freed_by (Made reply unused freed) = cond {A = ℕ} freed 1 0
freed_by reply = 0

module _ {S C R : Type 0} where
  -- how many calls of a history took their key out, and how many of these turns
  abbrev pub freed_in : List (Entry (PartitionState S) (PartitionCalls C) (PartitionReplies S R)) → ℕ
  freed_in [] = 0
  freed_in (e ∷ es) = freed_by e.reply + freed_in es

  abbrev pub freed_among : List (PartitionCalls C × PartitionReplies S R) → ℕ
  freed_among [] = 0
  freed_among (e ∷ es) = freed_by e.1 + freed_among es

  freed-append : (xs ys : List (Entry (PartitionState S) (PartitionCalls C) (PartitionReplies S R))) → freed_in (xs ++ ys) ≡ freed_in xs + freed_in ys
  freed-append [] ys = omega arith
  freed-append (x ∷ xs) ys = let rest = freed-append xs ys in omega (arith, rest)

pub freed_visits : (S : Type 0) {C R : Type 0} (call : C) (visits : List (Visit R)) → freed_among (map (turn_of {S = S} call) visits) ≡ count_by (λ v. v.1.1) visits
freed_visits S call [] = refl
freed_visits S {C} {R} call (v ∷ visits) = ap (λ (n : ℕ). cond {A = ℕ} v.1.1 1 0 + n) (freed_visits S call visits) ∙ sym (sum_by-cons (λ (w : Visit R). cond {A = ℕ} w.1.1 1 0) v visits)

module _ {S C R : Type 0} (legal : ℕ → PartitionState S → PartitionCalls C → PartitionReplies S R → PartitionState S → Type 0) (opening : PartitionState S) (n : ℕ) where
  -- a caller's own history grows by its turns
  pub own_freed : (seen mine seen' mine' : List (Entry (PartitionState S) (PartitionCalls C) (PartitionReplies S R))) (es : List (PartitionCalls C × PartitionReplies S R)) → MakesAll legal opening n seen mine seen' mine' es
      → freed_in mine' ≡ freed_in mine + freed_among es
  own_freed seen mine seen' mine' [] x = let e = ap freed_in x.1 in omega (arith, e)
  own_freed seen mine seen' mine' (e ∷ es) x =
      let own = ap freed_in x.2.own ∙ freed-append mine (entry n e.0 e.1 x.2.after ∷ []) in
      let rest = own_freed x.0 x.1 seen' mine' es x.3 in
      omega (arith, own, rest)

  -- and what it has seen begins with what it had seen
  pub still_begins : (seen mine seen' mine' : List (Entry (PartitionState S) (PartitionCalls C) (PartitionReplies S R))) (es : List (PartitionCalls C × PartitionReplies S R)) → MakesAll legal opening n seen mine seen' mine' es → StartsWith seen' seen
  still_begins seen mine seen' mine' [] x = ([], x.0 ∙ sym (append-nil seen))
  still_begins seen mine seen' mine' (e ∷ es) x =
      let m = x.2 in
      let call = entry n e.0 e.1 m.after ∷ [] in
      let rest = still_begins x.0 x.1 seen' mine' es x.3 in
      let one : x.0 ≡ seen ++ (m.begins.0 ++ call) = m.ends ∙ (ap (λ (l : List (Entry (PartitionState S) (PartitionCalls C) (PartitionReplies S R))). l ++ call) m.begins.1 ∙ append_assoc seen m.begins.0 call) in
      ((m.begins.0 ++ call) ++ rest.0, rest.1 ∙ (ap (λ (l : List (Entry (PartitionState S) (PartitionCalls C) (PartitionReplies S R))). l ++ rest.0) one ∙ append_assoc seen (m.begins.0 ++ call) rest.0))

-- a Boolean as a number
pub as_number : (b : Bool) → from_bool b ≡ cond {A = ℕ} b 1 0
as_number true = refl
as_number false = refl

pub at_most_one : (b : Bool) → from_bool b ≤ 1
at_most_one true = omega arith
at_most_one false = omega arith

-- a tick takes out the leases that are due
due_goes : (due : Bool) (lease : Lease) → is_none (if due then None else (Some lease)) ≡ due
due_goes true lease = refl
due_goes false lease = refl

pub due_taken : (state : Option Lease) → (is_some state && is_none (ticked state)) ≡ is_due state
due_taken None = refl
due_taken (Some lease) = due_goes (lease.rounds == 0) _

module _ (n k : ℕ) where
  -- each visit was a tick of its key at a moment of the history
  pub were_ticked : (visits : List (Visit (Option Lease))) (seen mine seen' mine' : List LeaseEntry) → MakesAll (λ _. PartitionLegal stepped k) fresh n seen mine seen' mine' (map (turn_of Tick) visits) → AllByRecursion (WasTicked n seen') visits
  were_ticked [] seen mine seen' mine' x = tt
  were_ticked (v ∷ visits) seen mine seen' mine' x =
      let m = x.2 in
      let turn = entry n (Call v.0 Tick false) (Made v.1.0 false v.1.1) m.after in
      let done = m.step.is.1 in
      let before : KeyMap Lease = (last_of fresh m.before).cells in
      let later = still_begins (λ _. PartitionLegal stepped k) fresh n x.0 x.1 seen' mine' (map (turn_of Tick) visits) x.3 in
      let found : v.1.0 ≡ fin.get before v.0 = done.replied in (
        record {
          before = m.before;
          after = m.after;
          later = later.0;
          moment = later.1 ∙ (ap (λ (l : List LeaseEntry). l ++ later.0) m.ends ∙ append_assoc m.before (turn ∷ []) later.0);
          found = found;
          left = ap (λ (s : KeyMap Lease). fin.get s v.0) done.steps ∙ (changed_here stepped before v.0 (ticked (fin.get before v.0)) v.0 refl ∙ ap ticked (sym found));
          taken = done.freed_is ∙ (due_taken (fin.get before v.0) ∙ ap is_due (sym found));
        },
        were_ticked visits x.0 x.1 seen' mine' x.3,
      )
