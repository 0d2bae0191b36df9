-- The number of a partition's entries is that of the entries that were made in its history, less those that were taken
-- out.
use Rattle.std.proofs.Common.{◌≡◌, ℕ, ◌+◌, ◌-◌, ◌≤◌, cond, List, [], ◌∷◌, Option, Some, None, is_some, refl, sym, ap, ◌∙◌, subst, arith}
use mathlib.Core.Logic.{dite}
use native.Mathlib.Decide.{ℕ_discrete}
use Rattle.std.specs.Cmp.Lexicographic.{nat_list_cmp_total}
use Rattle.std.specs.FinMap as fin
use Rattle.lock_book.specs.History.{last_of, IsLegal}
use Rattle.lock_book.proofs.Uses.{weigh}
use Rattle.dshash_core.specs.Cells.{KeyMap}
use Rattle.dshash_core.specs.Outcome.{changed}
use Rattle.dshash_parts.specs.Legal.{IsTurn, PartitionLegal}
use Rattle.dshash_parts.specs.States.{PartitionState}
use Rattle.dshash_parts.specs.declared.histories.PartitionCalls.TheVariants.{Call, Looks, Moves, Lists}
use Rattle.dshash_parts.specs.declared.histories.PartitionReplies.TheVariants.{Made, LacksItem, HasToGrow, Crowded, HasSize, Moved, Listed}
use Rattle.dshash_chunks.specs.Held.{worked_on}
use Rattle.dshash_chunks.specs.declared.held.Held.{Held}
use Rattle.dshash_chunks.specs.declared.held.ChunkCalls.TheVariants.{Put, Take, With}
use Rattle.page_cache.specs.Pages.{stepped, worked}
use Rattle.page_cache.specs.Tickets.{Answers, Asks, CacheCall, CacheEntry, CacheReply, makes, of_turn, takes}

module _ (m : KeyMap Held) (name : List ℕ) where
  put_new : (h : Held) → fin.get m name ≡ None → fin.len (fin.insert m name h) ≡ fin.len m + 1
  put_new h e = fin.len-insert nat_list_cmp_total m name h ∙ ap (λ (o : Option Held). cond (is_some o) (fin.len m) (fin.len m + 1)) e

  put_over : (h old : Held) → fin.get m name ≡ Some old → fin.len (fin.insert m name h) ≡ fin.len m
  put_over h old e = fin.len-insert nat_list_cmp_total m name h ∙ ap (λ (o : Option Held). cond (is_some o) (fin.len m) (fin.len m + 1)) e

  none_gone : fin.get m name ≡ None → fin.len (fin.remove m name) ≡ fin.len m
  none_gone e = fin.len-remove nat_list_cmp_total m name ∙ ap (λ (o : Option Held). cond (is_some o) (fin.len m - 1) (fin.len m)) e

  one_gone : (old : Held) → fin.get m name ≡ Some old → fin.len (fin.remove m name) ≡ fin.len m - 1
  one_gone old e = fin.len-remove nat_list_cmp_total m name ∙ ap (λ (o : Option Held). cond (is_some o) (fin.len m - 1) (fin.len m)) e

  -- who has a page is not empty
  has_one : (old : Held) → fin.get m name ≡ Some old → 1 ≤ fin.len m
  has_one old e = dite (ℕ_discrete (fin.len m) 0)
      (λ z. let none : fin.get m name ≡ None = ap (λ (x : KeyMap Held). fin.get x name) (fin.empty_of_len m z) ∙ fin.get-empty {X = Held} _ name in let no : Some old ≡ None = sym e ∙ none in absurd (cc))
      (λ nz. omega arith)

  -- a call that was made
  made_counts : (call : CacheCall) (held : Option Held) → fin.get m name ≡ held → fin.len (changed m name (stepped held call).0) + takes call (stepped held call).1 ≡ fin.len m + makes call (stepped held call).1
  made_counts (With call) (Some old) e = let l = put_over (worked_on worked old call) old e in omega (arith, l)
  made_counts (With call) None e = let l = none_gone e in omega (arith, l)
  made_counts (Put new) (Some old) e = let l = put_over new old e in omega (arith, l)
  made_counts (Put new) None e = let l = put_new new e in omega (arith, l)
  made_counts Take (Some old) e = let l = one_gone old e in let s = has_one old e in omega (arith, l, s)
  made_counts Take None e = let l = none_gone e in omega (arith, l)

-- a turn
turn_counts : (before left : PartitionState Held) (call : Asks) (reply : Answers) → IsTurn stepped before call reply left → fin.len left.cells + of_turn takes call reply ≡ fin.len before.cells + of_turn makes call reply
turn_counts before left (Call name call spare) (Made reply unused freed) h =
    let stood : Option Held = fin.get before.cells name in
    subst (λ (r : CacheReply). fin.len left.cells + takes call r ≡ fin.len before.cells + makes call r) (sym h.1.replied)
    (ap (λ (m : KeyMap Held). fin.len m + takes call (stepped stood call).1) h.1.steps ∙ made_counts before.cells name call stood refl)
turn_counts before left (Call name call spare) LacksItem h = ap (λ (m : KeyMap Held). fin.len m + 0) h.1.same
turn_counts before left (Call name call spare) (HasToGrow size back) h = ap (λ (m : KeyMap Held). fin.len m + 0) h.1.same
turn_counts before left (Call name call spare) (Crowded seed longest back) h = ap (λ (s : PartitionState Held). fin.len s.cells + 0) h.0
turn_counts before left (Call name call spare) (HasSize size keys) h = absurd h
turn_counts before left (Call name call spare) (Moved words) h = absurd h
turn_counts before left (Call name call spare) (Listed entries) h = absurd h
turn_counts before left Looks (HasSize size keys) h = ap (λ (s : PartitionState Held). fin.len s.cells + 0) h.1
turn_counts before left Looks (Made reply unused freed) h = absurd h
turn_counts before left Looks LacksItem h = absurd h
turn_counts before left Looks (HasToGrow size back) h = absurd h
turn_counts before left Looks (Crowded seed longest back) h = absurd h
turn_counts before left Looks (Moved words) h = absurd h
turn_counts before left Looks (Listed entries) h = absurd h
turn_counts before left (Moves to) (Moved words) h = ap (λ (m : KeyMap Held). fin.len m + 0) h.0.same
turn_counts before left (Moves to) (Made reply unused freed) h = absurd h
turn_counts before left (Moves to) LacksItem h = absurd h
turn_counts before left (Moves to) (HasToGrow size back) h = absurd h
turn_counts before left (Moves to) (Crowded seed longest back) h = absurd h
turn_counts before left (Moves to) (HasSize size keys) h = absurd h
turn_counts before left (Moves to) (Listed entries) h = absurd h
turn_counts before left Lists (Listed (Some entries)) h = ap (λ (s : PartitionState Held). fin.len s.cells + 0) h.1
turn_counts before left Lists (Listed None) h = ap (λ (s : PartitionState Held). fin.len s.cells + 0) h
turn_counts before left Lists (Made reply unused freed) h = absurd h
turn_counts before left Lists LacksItem h = absurd h
turn_counts before left Lists (HasToGrow size back) h = absurd h
turn_counts before left Lists (Crowded seed longest back) h = absurd h
turn_counts before left Lists (HasSize size keys) h = absurd h
turn_counts before left Lists (Moved words) h = absurd h

-- a history
pub history_counts : (number : ℕ) (s : PartitionState Held) (es : List CacheEntry) → IsLegal (λ _. PartitionLegal stepped number) s es
    → fin.len (last_of s es).cells + weigh (λ e. of_turn takes e.call e.reply) es ≡ fin.len s.cells + weigh (λ e. of_turn makes e.call e.reply) es
history_counts number s [] h = refl
history_counts number s (e ∷ es) h =
    let rest = history_counts number e.after es h.1 in
    let turn = turn_counts s e.after e.call e.reply h.0.is in
    omega (arith, rest, turn)
