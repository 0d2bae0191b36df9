-- Calls of texts in one turn of a partition: a call that puts in no new text is made, and what a pass has seen after the
-- turn.
use Rattle.std.proofs.Common.{◌≡◌, ℕ, ◌&&◌, not, Bool, true, false, cond, is_some, IsSome, List, [], ◌∷◌, ◌++◌, length, append_assoc, append-nil, Option, Some, None, refl, sym, ap, ◌∙◌}
use Rattle.std.specs.FinMap as fin
use Rattle.atomic_table.specs.Seated.{TableId}
use Rattle.region_words.specs.declared.chunk.Chunk.{Chunk}
use Rattle.lock_book.specs.declared.kept.Kept.{Ghosts}
use Rattle.lock_book.specs.declared.several.Turn.{Turn}
use Rattle.lock_book.specs.declared.view.Entry.{Entry}
use Rattle.lock_book.specs.History.{entry}
use Rattle.lock_book.specs.Shown.{calls_in, number_in, place_in}
use Rattle.lock_book.specs.Told.{Histories}
use Rattle.dshash_core.specs.Key.{hash_of}
use Rattle.dshash_core.specs.Cells.{partition_of}
use Rattle.dshash_core.proofs.Maps.{same_key}
use Rattle.dshash_core.specs.declared.outcome.CoreOut.{CoreOut}
use Rattle.dshash_core.specs.declared.outcome.CoreOut.TheVariants.{Done, NeedItem, TooFull}
use Rattle.dshash_parts.specs.Asked.{outcome_of}
use Rattle.dshash_parts.specs.Replays.{calls_of_key, made_of}
use Rattle.dshash_parts.specs.States.{PartitionState}
use Rattle.dshash_parts.specs.Tables.{state_at}
use Rattle.dshash_parts.specs.Turns.{TurnedIn, state_in, under_in}
use Rattle.dshash_parts.specs.declared.asks.TableAsk.{TableAsk}
use Rattle.dshash_parts.specs.declared.asks.TableAnswer.{TableAnswer}
use Rattle.dshash_parts.specs.declared.histories.PartitionCalls.{PartitionCalls}
use Rattle.dshash_parts.specs.declared.histories.PartitionCalls.TheVariants.{Call}
use Rattle.dshash_parts.specs.declared.histories.PartitionName.{PartitionName}
use Rattle.dshash_parts.specs.declared.histories.PartitionReplies.{PartitionReplies}
use Rattle.dshash_parts.specs.declared.histories.PartitionReplies.TheVariants.{Made}
use Rattle.dshash_parts.specs.declared.numbered.Numbered.{Numbered}
use Rattle.uses_table.specs.declared.text.Text.{Text}
use Rattle.uses_table.specs.declared.text.TextCall.{TextCall}
use Rattle.uses_table.specs.Texts.{after, stepped}
use Rattle.uses_table.specs.declared.text.TextCall.TheVariants.{Get, Set}
use Rattle.uses_table.specs.Cached.{AreSwap, under}

no_new : (text next : Option Text) → (IsSome next → IsSome text) → (not (is_some text) && is_some next) ≡ false
no_new (Some x) next there = refl
no_new None None there = refl
no_new None (Some y) there = let no = there refl in absurd (cc)

module _ {g : Ghosts (Numbered Text Text TextCall (Option Text)) TableId (TableAsk Text Text TextCall (Option Text)) (TableAnswer Text Text TextCall (Option Text)) PartitionName (PartitionState Text) (PartitionCalls TextCall) (PartitionReplies Text (Option Text))}
    (t u : Turn (Numbered Text Text TextCall (Option Text)) TableId (TableAsk Text Text TextCall (Option Text)) (TableAnswer Text Text TextCall (Option Text)) PartitionName (PartitionState Text) (PartitionCalls TextCall) (PartitionReplies Text (Option Text)) g)
    (name : List ℕ) (call : TextCall) where
  -- a call that leaves a text only where one was is made
  pub made_in : (out : CoreOut Text Text TextCall (Option Text)) → (IsSome (after (under_in t name) call) → IsSome (under_in t name)) → TurnedIn stepped t u (Call name call false) (outcome_of out) → ((reply : Option Text) (unused freed : Option Chunk) → out ≡ Done reply unused freed → ⊥) → ⊥
  made_in (Done reply unused freed) there e other = other reply unused freed refl
  made_in NeedItem there e other = let no = sym (no_new (under_in t name) (after (under_in t name) call) there) ∙ e.legal.is.1.inserts in absurd (cc)
  made_in (TooFull size back) there e other = let no = sym (no_new (under_in t name) (after (under_in t name) call) there) ∙ e.legal.is.1.inserts in absurd (cc)

  -- it is one call of the name then
  pub one_in : (reply : Option Text) (unused freed : Option Chunk) → TurnedIn stepped t u (Call name call false) (outcome_of {O = Text} {S = Text} {C = TextCall} {R = Option Text} (Done reply unused freed))
      → (e : Entry (PartitionState Text) (PartitionCalls TextCall) (PartitionReplies Text (Option Text))) × (calls_in u ≡ calls_in t ++ e ∷ []) × (calls_of_key name (e ∷ []) ≡ (call, reply) ∷ [])
  one_in reply unused freed e =
      (entry (number_in t) (Call name call false) (Made reply (is_some unused) (is_some freed)) e.after, e.calls, ap (λ (b : Bool). cond b ((call, reply) ∷ []) [] ++ []) (same_key name name refl))

  -- what is under the name after the turn
  pub under_is : (seen : Histories (PartitionState Text) (PartitionCalls TextCall) (PartitionReplies Text (Option Text))) → partition_of (hash_of name) ≡ place_in u → state_at seen (place_in u) ≡ state_in u → under seen name ≡ under_in u name
  under_is seen here e = ap (λ (n : ℕ). fin.get (state_at seen n).cells name) here ∙ ap (λ (s : PartitionState Text). fin.get s.cells name) e

-- a look that was not followed by a change
pub looked : (xs ys : List (Entry (PartitionState Text) (PartitionCalls TextCall) (PartitionReplies Text (Option Text)))) (name : List ℕ) (text : Text) (found : Option Text) (e : Entry (PartitionState Text) (PartitionCalls TextCall) (PartitionReplies Text (Option Text)))
    → ys ≡ xs ++ e ∷ [] → calls_of_key name (e ∷ []) ≡ (Get, found) ∷ []
    → (es : List (Entry (PartitionState Text) (PartitionCalls TextCall) (PartitionReplies Text (Option Text)))) × (ys ≡ xs ++ es) × AreSwap es name found text false
looked xs ys name text found e more is = (e ∷ [], more, record { calls = is; no_others = sym (ap length is) })

-- a look and a change
pub changed : (xs ys zs : List (Entry (PartitionState Text) (PartitionCalls TextCall) (PartitionReplies Text (Option Text)))) (name : List ℕ) (text : Text) (found : Option Text) (d e : Entry (PartitionState Text) (PartitionCalls TextCall) (PartitionReplies Text (Option Text)))
    → ys ≡ xs ++ d ∷ [] → calls_of_key name (d ∷ []) ≡ (Get, found) ∷ [] → zs ≡ ys ++ e ∷ [] → calls_of_key name (e ∷ []) ≡ (Set text, found) ∷ []
    → (es : List (Entry (PartitionState Text) (PartitionCalls TextCall) (PartitionReplies Text (Option Text)))) × (zs ≡ xs ++ es) × AreSwap es name found text true
changed xs ys zs name text found d e first is then so =
    let alone : made_of name d.call d.reply ≡ (Get, found) ∷ [] = sym (append-nil (made_of name d.call d.reply)) ∙ is in
    let both : calls_of_key name (d ∷ e ∷ []) ≡ (Get, found) ∷ (Set text, found) ∷ [] = ap (λ (m : List (TextCall × Option Text)). m ++ calls_of_key name (e ∷ [])) alone ∙ ap (λ (m : List (TextCall × Option Text)). (Get, found) ∷ m) so in
    (d ∷ e ∷ [], then ∙ (ap (λ (l : List (Entry (PartitionState Text) (PartitionCalls TextCall) (PartitionReplies Text (Option Text)))). l ++ e ∷ []) first ∙ append_assoc xs (d ∷ []) (e ∷ [])), record { calls = both; no_others = sym (ap length both) })
