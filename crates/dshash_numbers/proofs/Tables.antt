-- The same of a table of numbers.
use Rattle.std.proofs.Common.{◌≡◌, ◌∙◌, ℕ, ◌+◌, true, not, ◌&&◌, List, [], ◌∷◌, is_some, Option, Some, None, Result, Ok, Err, IfOk, IfErr, fold, refl, ap, sym}
use Rattle.std.specs.FinMap as fin
use Rattle.std.specs.List.{sum_by}
use Rattle.lock_book.specs.Shown.{number_of}
use Rattle.dsa_area.specs.declared.area.Area.{Area}
use Rattle.dsa_area.specs.declared.area.AreaPass.{AreaPass}
use Rattle.dsa_area.specs.declared.requests.NoSpace.{NoSpace}
use Rattle.dshash_core.specs.Listing.{pairs_of}
use Rattle.dshash_core.specs.declared.entries.Entry.{Entry}
use Rattle.dshash_core.specs.Outcome.{changed}
use Rattle.dshash_parts.specs.Promises.{CallMade, CallRefused}
use Rattle.dshash_parts.specs.Tables.{Belongs, callers_of}
use Rattle.dshash_parts.proofs.Cells.{refused_inserts}
use Rattle.dshash_numbers.specs.Maps.{IsMade, IsRefused, home_of, map_of}
use Rattle.dshash_numbers.specs.Numbers.{after, stepped}
use Rattle.dshash_numbers.specs.declared.number.NumberCall.{NumberCall}
use Rattle.dshash_numbers.specs.declared.number.NumberCall.TheVariants.{Delete}
use Rattle.dshash_numbers.specs.declared.table.NumberTable.{NumberTable}
use Rattle.dshash_numbers.proofs.MapCalls.{made_now, made_others, made_was, refused_stays}

-- the same table, t and t', before and after a call of a key
module _ (a : Area) (t t' : NumberTable) (u u' : AreaPass) (key : List ℕ) (call : NumberCall) (same : t'.table ≡ t.table) (one : callers_of t.table ≡ 1) (own : Belongs t.table t.pass) (own' : Belongs t.table t'.pass) (caller : number_of t'.pass ≡ number_of t.pass) where
  pub made : (result : Result (Option ℕ) NoSpace) → IfOk result (CallMade stepped t.table a t.pass u t'.pass u' key call) → IfOk result (IsMade a t t' u u' key call)
  made (Ok before) x =
      let was = made_was stepped t.table t.pass t'.pass one own own' caller a u u' key call before x in
      record {
        same = same;
        was = was;
        here = made_now stepped t.table t.pass t'.pass one own own' caller a u u' key call before x ∙ ap (λ (b : Option ℕ). changed (map_of t (home_of key)) key (after b call)) (sym was);
        others = λ number low other. made_others stepped t.table t.pass t'.pass one own own' caller a u u' key call before x number other;
        events = x;
      }
  made (Err lack) x = tt

  pub refused : (result : Result (Option ℕ) NoSpace) → IfErr result (λ lack. CallRefused stepped t.table a t.pass u t'.pass u' key call lack.pages lack.largest) → IfErr result (λ lack. IsRefused a t t' u u' key call lack.pages lack.largest)
  refused (Ok before) x = tt
  refused (Err lack) x = record { same = same; stays = λ number low. refused_stays stepped t.table t.pass t'.pass one own own' caller a u u' key call lack.pages lack.largest x number; events = x }

-- a delete puts nothing in
delete_bare : (n : Option ℕ) → (not (is_some n) && is_some (after n Delete)) ≡ true → ⊥
delete_bare None h = cc
delete_bare (Some n) h = cc

module _ (a : Area) (t t' : NumberTable) (u u' : AreaPass) (key : List ℕ) (wanted largest : ℕ) where
  -- so it is never refused
  pub delete_granted : IsRefused a t t' u u' key Delete wanted largest → ⊥
  delete_granted x =
      let e = x.events in
      let had = refused_inserts stepped a (number_of t.pass) _ _ _ _ key Delete wanted largest e.0 e.1 e.2 in
      delete_bare (fin.get had.0 key) had.1

-- the sum over entries is that over their pairs
sums : {O C R : Type 0} (n : ℕ) (entries : List (Entry O ℕ C R)) → fold (λ a pair. a + pair.1) n (pairs_of entries) ≡ fold (λ a e. a + e.state) n entries
sums n [] = refl
sums n (e ∷ entries) = sums (n + e.state) entries

pub sum_pairs : {O C R : Type 0} (entries : List (Entry O ℕ C R)) → sum_by (λ pair. pair.1) (pairs_of entries) ≡ sum_by (λ e. e.state) entries
sum_pairs entries = sums 0 entries
