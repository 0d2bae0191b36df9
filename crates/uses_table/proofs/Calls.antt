-- What a call of a cache tells of the text under its name, and that only a call that puts in a text is refused.
use Rattle.std.proofs.Common.{◌≡◌, ℕ, ◌<◌, Bool, true, false, not, cond, ◌&&◌, is_some, List, [], ◌∷◌, ◌++◌, append_assoc, refl, Option, Some, None, IsSome, Result, Ok, Err, IfOk, IfErr, sym, ap, ◌∙◌}
use Rattle.std.specs.FinMap as fin
use Rattle.lock_book.specs.History.{entry, IsLegal}
use Rattle.lock_book.specs.declared.view.Entry.{Entry}
use Rattle.lock_book.specs.Told.{Histories}
use Rattle.dsa_area.specs.declared.area.Area.{Area}
use Rattle.dsa_area.specs.declared.requests.NoSpace.{NoSpace}
use Rattle.dshash_core.specs.Key.{hash_of}
use Rattle.dshash_core.specs.Cells.{partition_of}
use Rattle.dshash_core.proofs.Maps.{same_key}
use Rattle.dshash_parts.specs.Owners.{IsOwner}
use Rattle.dshash_parts.specs.Replays.{calls_of_key, made_of, IsRun}
use Rattle.dshash_parts.specs.Tables.{AtPartition}
use Rattle.dshash_parts.specs.States.{PartitionState, fresh}
use Rattle.dshash_parts.specs.Legal.{PartitionLegal}
use Rattle.dshash_parts.specs.Traces.{Event, Sight, Trace}
use Rattle.dshash_parts.specs.Promises.{IsLastCall, IsRefused}
use Rattle.dshash_parts.specs.declared.histories.PartitionCalls.{PartitionCalls}
use Rattle.dshash_parts.specs.declared.histories.PartitionCalls.TheVariants.{Call}
use Rattle.dshash_parts.specs.declared.histories.PartitionReplies.{PartitionReplies}
use Rattle.dshash_parts.specs.declared.histories.PartitionReplies.TheVariants.{Made}
use Rattle.dshash_parts.proofs.Uses.{partition_low}
use Rattle.dshash_parts.proofs.Cells.{cell_told, refused_inserts}
use Rattle.uses_table.specs.declared.text.Text.{Text}
use Rattle.uses_table.specs.declared.text.TextCall.{TextCall}
use Rattle.uses_table.specs.declared.text.TextCall.TheVariants.{Get, Set, Remove}
use Rattle.uses_table.specs.Texts.{after, left_by, may, owner_of, stepped}
use Rattle.uses_table.specs.Cached.{own_text, under}

-- after a call that was made, what stands under the name is what the call makes of the text that it replied
pub text_told : {E : Type 0} (n : ℕ) (name : List ℕ) (call : TextCall) (seen : Histories (PartitionState Text) (PartitionCalls TextCall) (PartitionReplies Text (Option Text))) (result : Result (Option Text) E)
    → ((i : ℕ) → i < 128 → IsLegal (λ _. PartitionLegal stepped i) fresh (seen i))
    → IfOk result (λ reply. IsLastCall n name call reply (seen (partition_of (hash_of name)))) → IfOk result (λ before. under seen name ≡ after before call)
text_told n name call seen (Ok reply) lawful last =
    let home : ℕ = partition_of (hash_of name) in
    let told = cell_told stepped home n name call reply (seen home) (lawful home (partition_low name)) last in
    told.1 ∙ ap (λ (text : Option Text). after text call) (sym told.0)
text_told n name call seen (Err e) lawful last = tt

-- a call that would put in a text that was not there puts one in wherever none is
puts_in : (text : Option Text) (call : TextCall) → (not (is_some text) && is_some (after text call)) ≡ true → IsSome (after None call)
puts_in None call h = h
puts_in (Some text) call h = absurd (cc)

-- so a call that was refused does
pub refused_puts : (a : Area) (n : ℕ) (v w : Sight Text TextCall (Option Text)) (number item : ℕ) (name : List ℕ) (call : TextCall) (result : Result (Option Text) NoSpace)
    → IfErr result (λ lack. (es : List (Event Text TextCall (Option Text))) × IsRefused number item name call lack.pages lack.largest es × Trace stepped a n v w es) → IfErr result (λ _. IsSome (after None call))
refused_puts a n v w number item name call (Ok reply) refused = tt
refused_puts a n v w number item name call (Err lack) refused =
    let had = refused_inserts stepped a n v w number item name call lack.pages lack.largest refused.0 refused.1 refused.2 in
    puts_in (fin.get had.0 name) call had.1

-- the name's owner alone changes what stands there
pub owns : (n : ℕ) (name : List ℕ) → owner_of name ≡ n → IsOwner stepped may n name
owns n name is other Get ne lets text = refl
owns n name is other (Set new) ne lets text = absurd (ne (sym lets ∙ is))
owns n name is other Remove ne lets text = absurd (ne (sym lets ∙ is))

-- the calls of a cell leave its text
pub run_leaves : (text : Option Text) (made : List (TextCall × Option Text)) (last : Option Text) → IsRun stepped text made last → left_by text made ≡ last
run_leaves text [] last run = run
run_leaves text (m ∷ made) last run = run_leaves (after text m.0) made last run.1

-- a look-up more leaves the text
pub left_by-get : (text : Option Text) (made : List (TextCall × Option Text)) (reply : Option Text) → left_by text (made ++ (Get, reply) ∷ []) ≡ left_by text made
left_by-get text [] reply = refl
left_by-get text (m ∷ made) reply = left_by-get (after text m.0) made reply

module _ {S C R : Type 0} where
  -- the calls of a key in a history that goes on
  calls-append : (key : List ℕ) (es fs : List (Entry (PartitionState S) (PartitionCalls C) (PartitionReplies S R))) → calls_of_key key (es ++ fs) ≡ calls_of_key key es ++ calls_of_key key fs
  calls-append key [] fs = refl
  calls-append key (e ∷ es) fs = ap (λ (made : List (C × R)). made_of key e.call e.reply ++ made) (calls-append key es fs) ∙ sym (append_assoc (made_of key e.call e.reply) (calls_of_key key es) (calls_of_key key fs))

-- so a look-up by a pass leaves what its own calls left
pub looked_up : (n : ℕ) (seen mine seen' mine' : Histories (PartitionState Text) (PartitionCalls TextCall) (PartitionReplies Text (Option Text))) (name : List ℕ) (reply : Option Text)
    → AtPartition stepped n seen mine seen' mine' (partition_of (hash_of name)) (Call name Get false) (Made reply false false) → own_text mine' name ≡ own_text mine name
looked_up n seen mine seen' mine' name reply turn =
    let home : ℕ = partition_of (hash_of name) in
    let x = turn.here in
    let e = entry n (Call name Get false) (Made reply false false) x.2.after in
    let grows : mine' home ≡ mine home ++ e ∷ [] = x.3.1 ∙ x.2.own in
    ap (λ es. left_by None (calls_of_key name es)) grows
    ∙ (ap (left_by None) (calls-append name (mine home) (e ∷ []))
    ∙ (ap (λ (b : Bool). left_by None (calls_of_key name (mine home) ++ (cond b ((Get, reply) ∷ []) [] ++ []))) (same_key name name refl)
    ∙ left_by-get None (calls_of_key name (mine home)) reply))
