-- A look-up is a call of the table that was made by one turn, and asked nothing of any area.
use Rattle.std.proofs.Common.{◌≡◌, ◌∙◌, ℕ, ⊎_elim, false, true, List, [], ◌∷◌, Option, refl, ap, sym, arith}
use Rattle.lock_book.specs.Shown.{number_of, seen_of}
use Rattle.lock_book.specs.Told.{Histories}
use Rattle.dsa_area.specs.declared.area.Area.{Area}
use Rattle.dsa_area.specs.declared.area.AreaPass.{AreaPass}
use Rattle.dshash_core.specs.Chains.{Among}
use Rattle.dshash_core.specs.Outcome.{changed}
use Rattle.dshash_parts.specs.Promises.{AllGrew, CallMade, IsMade as IsMadeCall}
use Rattle.dshash_parts.specs.States.{PartitionState}
use Rattle.dshash_parts.specs.Tables.{Belongs, Turned, callers_of, item_of}
use Rattle.dshash_parts.specs.Traces.{Event, Turn, sight_of}
use Rattle.dshash_parts.specs.declared.histories.PartitionCalls.{PartitionCalls}
use Rattle.dshash_parts.specs.declared.histories.PartitionCalls.TheVariants.{Call}
use Rattle.dshash_parts.specs.declared.histories.PartitionReplies.{PartitionReplies}
use Rattle.dshash_parts.specs.declared.histories.PartitionReplies.TheVariants.{Made}
use Rattle.dshash_numbers.specs.Maps.{IsMade, home_of, map_of}
use Rattle.dshash_numbers.specs.Numbers.{after, stepped}
use Rattle.dshash_numbers.specs.declared.number.NumberCall.TheVariants.{Get}
use Rattle.dshash_numbers.specs.declared.table.NumberTable.{NumberTable}
use Rattle.dshash_numbers.proofs.MapCalls.{made_now, made_others, made_was}

module _ {S C R : Type 0} (number item : ℕ) (key : List ℕ) (call : C) (reply : R) where
  -- the events of a look-up
  abbrev pub looked : List (Event S C R)
  looked = Turn number (Call key call false) (Made reply false false) ∷ []

  only : (e : Event S C R) → Among e looked → e ≡ Turn number (Call key call false) (Made reply false false)
  only e h = ⊎_elim (λ (same : e ≡ Turn number (Call key call false) (Made reply false false)). same) (λ z. absurd z) h

  pub looked_made : IsMadeCall number item key call reply looked
  looked_made = record {
    before = [];
    after = [];
    spare = false;
    unused = false;
    freed = false;
    is = refl;
    none_before = tt;
    gifts_after = tt;
    balance = λ bytes. refl;
    uses = λ held. let e : false ≡ true = held in absurd (cc);
    frugal = record {
      moves = λ k to left h. absurd (let e = only _ h in cc);
      grants = λ bytes h. absurd (let e = only _ h in cc);
      gifts = λ bytes accepted h. absurd (let e = only _ h in cc);
      asks = omega arith;
      rounds = omega arith;
    };
  }

  pub looked_grew : (seen : Histories (PartitionState S) (PartitionCalls C) (PartitionReplies S R)) → AllGrew number item key call looked seen
  looked_grew seen size k h low = absurd (let e = only _ h.1 in cc)

-- the same table, t and t', before and after a look-up of a key
module _ (t t' : NumberTable) (key : List ℕ) (same : t'.table ≡ t.table) (one : callers_of t.table ≡ 1) (own : Belongs t.table t.pass) (own' : Belongs t.table t'.pass) (caller : number_of t'.pass ≡ number_of t.pass) where
  pub got : (before : Option ℕ) → Turned stepped t.pass t'.pass (home_of key) (Call key Get false) (Made before false false) → (a : Area) (u : AreaPass) → IsMade a t t' u u key Get before
  got before turn a u =
      let home = home_of key in
      let item = item_of t.table in
      let x : CallMade stepped t.table a t.pass u t'.pass u key Get before = (
        looked home item key Get before,
        looked_made home item key Get before,
        (sight_of t'.pass u, (turn, refl), refl),
        looked_grew home item key Get before (seen_of t'.pass),
      ) in
      let was = made_was stepped t.table t.pass t'.pass one own own' caller a u u key Get before x in
      record {
        same = same;
        was = was;
        here = made_now stepped t.table t.pass t'.pass one own own' caller a u u key Get before x ∙ ap (λ (b : Option ℕ). changed (map_of t (home_of key)) key (after b Get)) (sym was);
        others = λ number low other. made_others stepped t.table t.pass t'.pass one own own' caller a u u key Get before x number other;
        events = x;
      }
