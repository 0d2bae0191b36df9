-- What calls and listings of a lone caller make of a table's maps.
use Rattle.std.proofs.Common.{◌≡◌, ◌≢◌, ◌∙◌, ℕ, zero, suc, ◌<◌, ◌==◌, ⊎_elim, true, false, List, [], ◌∷◌, length, Option, Some, eq-eqb, refl, ap, sym, subst, arith}
use mathlib.Core.Option.{some}
use lib.ListN.{get_elem?}
use Rattle.std.proofs.lemmas.Bool.Decides.{eqb_tells}
use Rattle.std.specs.FinMap as fin
use Rattle.atomic_table.specs.Seated.{TableId}
use Rattle.lock_book.specs.Shown as shelf
use Rattle.lock_book.specs.Shown.{mine_of, number_of, opens_of, seen_of}
use Rattle.lock_book.specs.Told.{IsPass}
use Rattle.lock_book.specs.declared.kept.Kept.{Ghosts}
use Rattle.lock_book.specs.declared.shelf.Pass.{Pass}
use Rattle.dsa_area.specs.declared.area.Area.{Area}
use Rattle.dsa_area.specs.declared.area.AreaPass.{AreaPass}
use Rattle.dshash_core.specs.Cells.{partition_of}
use Rattle.dshash_core.specs.Key.{hash_of}
use Rattle.dshash_core.specs.Outcome.{changed, next_of}
use Rattle.dshash_parts.specs.Legal.{PartitionLegal}
use Rattle.dshash_parts.specs.Promises.{CallMade, CallRefused}
use Rattle.dshash_parts.specs.States.{PartitionState, fresh}
use Rattle.dshash_parts.specs.Tables.{Belongs, Did, callers_of, map_at, state_at}
use Rattle.dshash_parts.specs.Traces.{sight_of, turns_at}
use Rattle.dshash_parts.specs.declared.asks.TableAnswer.{TableAnswer}
use Rattle.dshash_parts.specs.declared.asks.TableAsk.{TableAsk}
use Rattle.dshash_parts.specs.declared.histories.PartitionCalls.{PartitionCalls}
use Rattle.dshash_parts.specs.declared.histories.PartitionName.{PartitionName}
use Rattle.dshash_parts.specs.declared.histories.PartitionReplies.{PartitionReplies}
use Rattle.dshash_parts.specs.declared.numbered.Numbered.{Numbered}
use Rattle.dshash_parts.specs.declared.table.Dshash.{Dshash}
use Rattle.dshash_parts.specs.declared.histories.PartitionCalls.TheVariants.{Lists}
use Rattle.dshash_parts.specs.declared.histories.PartitionReplies.TheVariants.{Listed}
use Rattle.dshash_parts.proofs.Uses.{did_turns}
use Rattle.dshash_scan.specs.Listings.{ListsTable}
use Rattle.dshash_numbers.proofs.Lone.{Steps, lone-steps}
use Rattle.dshash_numbers.proofs.MapTurns.{all-keep, keeps, made-else, made-here}

-- a place within a list
at_within : {X : Type 0} (xs : List X) (k : ℕ) → k < length xs → (x : X) × (get_elem? xs k ≡ some x)
at_within [] k low = absurd (omega (arith, low))
at_within (x ∷ xs) zero low = (x, refl)
at_within (x ∷ xs) (suc k) low = at_within xs k (omega (arith, low))

module _ {O S C R : Type 0} {g : Ghosts (Numbered O S C R) TableId (TableAsk O S C R) (TableAnswer O S C R) PartitionName (PartitionState S) (PartitionCalls C) (PartitionReplies S R)} (step : Option S → C → Option S × R) (t : Dshash O S C R)
    (p q : Pass (Numbered O S C R) TableId (TableAsk O S C R) (TableAnswer O S C R) PartitionName (PartitionState S) (PartitionCalls C) (PartitionReplies S R) g) (one : callers_of t ≡ 1) (own : Belongs t p) (own' : Belongs t q) (same : number_of q ≡ number_of p) where
  -- the turns at a partition lead from its state to the next
  pub steps : (k : ℕ) (es : List (PartitionCalls C × PartitionReplies S R)) → Did step (number_of p) (seen_of p) (mine_of p) (seen_of q) (mine_of q) k es
      → Steps (λ _. PartitionLegal step k) (number_of p) (state_at (seen_of p) k) es (state_at (seen_of q) k)
  steps k es x =
      let stands = subst (λ (n : ℕ). IsPass g.legal (opens_of t.shelf) (shelf.callers_of t.shelf) n (seen_of q) (mine_of q)) same own'.stands in
      lone-steps g.legal (opens_of t.shelf) (shelf.callers_of t.shelf) (number_of p) one (seen_of p) (mine_of p) (seen_of q) (mine_of q) own.stands stands k (λ _. PartitionLegal step k) fresh es x

  module _ (a : Area) (u w : AreaPass) (key : List ℕ) (call : C) where
    abbrev home : ℕ
    home = partition_of (hash_of key)

    -- a call that was made
    pub made_was : (reply : R) → CallMade step t a p u q w key call reply → reply ≡ (step (fin.get (map_at (seen_of p) home) key) call).1
    made_was reply x =
        let m = x.1 in
        (made-here step (number_of p) home key call reply m.spare m.unused m.freed x.0 m.before m.after m.is m.none_before m.gifts_after home _ _ (eq-eqb home home refl) (steps home (turns_at home x.0) (did_turns step a (number_of p) home (sight_of p u) (sight_of q w) x.0 x.2))).0

    pub made_now : (reply : R) → CallMade step t a p u q w key call reply → map_at (seen_of q) home ≡ changed (map_at (seen_of p) home) key (next_of step (map_at (seen_of p) home) key call)
    made_now reply x =
        let m = x.1 in
        (made-here step (number_of p) home key call reply m.spare m.unused m.freed x.0 m.before m.after m.is m.none_before m.gifts_after home _ _ (eq-eqb home home refl) (steps home (turns_at home x.0) (did_turns step a (number_of p) home (sight_of p u) (sight_of q w) x.0 x.2))).1

    pub made_others : (reply : R) → CallMade step t a p u q w key call reply → (k : ℕ) → k ≢ home → map_at (seen_of q) k ≡ map_at (seen_of p) k
    made_others reply x k other =
        let m = x.1 in
        ⊎_elim
        (λ (e : ((home == k) ≡ true) × (home ≡ k)). absurd (other (sym e.1)))
        (λ (e : ((home == k) ≡ false) × (home ≢ k)).
        made-else step (number_of p) home key call reply m.spare m.unused m.freed x.0 m.before m.after m.is m.none_before m.gifts_after k _ _ e.0 (steps k (turns_at k x.0) (did_turns step a (number_of p) k (sight_of p u) (sight_of q w) x.0 x.2)))
        (eqb_tells home k)

    -- a call that was refused
    pub refused_stays : (wanted largest : ℕ) → CallRefused step t a p u q w key call wanted largest → (k : ℕ) → map_at (seen_of q) k ≡ map_at (seen_of p) k
    refused_stays wanted largest x k = all-keep step (number_of p) k x.0 _ _ x.1.none (steps k (turns_at k x.0) (did_turns step a (number_of p) k (sight_of p u) (sight_of q w) x.0 x.2))

  -- a listing of each partition
  pub listed_stays : (pairs : List (List ℕ × S)) → ListsTable step p q pairs → (k : ℕ) → k < 128 → map_at (seen_of q) k ≡ map_at (seen_of p) k
  listed_stays pairs x k low =
      let part = at_within x.parts k (omega (arith, low, x.count)) in
      let turn = steps k ((Lists, Listed (Some part.0)) ∷ []) (x.listings k part.0 part.1).0 in
      ap (λ (s : PartitionState S). s.cells) turn.2 ∙ keeps step (number_of p) k _ turn.0 Lists (Listed (Some part.0)) tt turn.1.is
