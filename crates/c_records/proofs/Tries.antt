-- What a turn at a key's partition makes of a try.
use Rattle.std.proofs.Common.{◌≡◌, ℕ, ◌+◌, ◌*◌, ◌&&◌, not, Bool, true, false, [], ◌∷◌, Option, Some, None, IfNone, is_some, refl, sym, ap, ◌∙◌, subst, arith}
use Rattle.region_words.specs.declared.chunk.Chunk.{Chunk}
use Rattle.lock_book.specs.Shown.{number_of, seen_of}
use Rattle.dshash_core.specs.declared.outcome.CoreOut.{CoreOut}
use Rattle.dshash_core.specs.declared.outcome.CoreOut.TheVariants.{Done, NeedItem, TooFull}
use Rattle.dshash_parts.specs.Asked.{outcome_of}
use Rattle.dshash_parts.specs.Promises.{one_if}
use Rattle.dshash_parts.specs.Tables.{Turned}
use Rattle.dshash_parts.specs.Tries.{Tells}
use Rattle.dshash_parts.specs.declared.histories.PartitionCalls.TheVariants.{Call}
use Rattle.dshash_parts.specs.declared.histories.PartitionReplies.TheVariants.{HasToGrow, LacksItem, Made}
use Rattle.dshash_parts.proofs.Sizes.{turn_legal}
use Rattle.c_records.specs.Shares.{words_of}
use Rattle.c_records.specs.Values.{after, stepped}
use Rattle.c_table.specs.Tries.{home_of}
use Rattle.c_records.specs.Tries.{FindsFull, IsMade, LacksAnItem}
use Rattle.c_records.specs.declared.shared.Share.{Share}
use Rattle.c_records.specs.declared.value.Record.{Record}
use Rattle.c_records.specs.declared.value.RecordCall.{RecordCall}

module _ (s t : Share) (key : ℕ) (call : RecordCall) where
  -- a call that was made
  pub made : (spare : Bool) (out : CoreOut Record Record RecordCall (Option Record)) (reply : Option Record) (unused freed : Option Chunk) → out ≡ Done reply unused freed
      → Turned stepped s.pass t.pass (home_of key) (Call (key ∷ []) call spare) (outcome_of out) → Tells stepped (number_of s.pass) (seen_of t.pass) (key ∷ []) call out
      → words_of t + 20 * one_if spare ≡ words_of s + 20 * one_if (is_some unused) + 20 * one_if (is_some freed) → IsMade s t key call reply
  made spare out reply unused freed e turn told words =
      let done = subst (λ (z : CoreOut Record Record RecordCall (Option Record)). Turned stepped s.pass t.pass (home_of key) (Call (key ∷ []) call spare) (outcome_of z)) e turn in
      let tells = subst (λ (z : CoreOut Record Record RecordCall (Option Record)). Tells stepped (number_of s.pass) (seen_of t.pass) (key ∷ []) call z) e told in
      record {
        event = (spare, is_some unused, is_some freed, done, (let parts = used_or_not spare (is_some unused) _ (turn_legal stepped _ _ _ _ _ (home_of key) (Call (key ∷ []) call spare) (Made reply (is_some unused) (is_some freed)) done).1.is.1.unused_is in omega arith));
        last = tells.1;
        stands = tells.0.stands ∙ ap (λ (z : Option Record). after z call) (sym tells.0.replied);
      }
    where
      used_or_not : (spare unused made : Bool) → unused ≡ (spare && not made) → one_if spare ≡ one_if unused + one_if (spare && not unused)
      used_or_not true true made e = refl
      used_or_not true false made e = refl
      used_or_not false true made e = absurd (cc)
      used_or_not false false made e = refl

  -- a call that lacks an item brought none
  pub lacks : (P : Type 0) (spare : Option Chunk) (out : CoreOut Record Record RecordCall (Option Record)) → out ≡ NeedItem
      → Turned stepped s.pass t.pass (home_of key) (Call (key ∷ []) call (is_some spare)) (outcome_of out) → IfNone spare P → LacksAnItem s t key call × P
  lacks P spare out e turn less =
      let need : Turned stepped s.pass t.pass (home_of key) (Call (key ∷ []) call (is_some spare)) LacksItem = subst (λ (z : CoreOut Record Record RecordCall (Option Record)). Turned stepped s.pass t.pass (home_of key) (Call (key ∷ []) call (is_some spare)) (outcome_of z)) e turn in
      bare spare need less (turn_legal stepped _ _ _ _ _ (home_of key) (Call (key ∷ []) call (is_some spare)) LacksItem need).1.is.1.bare
    where
      bare : (spare : Option Chunk) → Turned stepped s.pass t.pass (home_of key) (Call (key ∷ []) call (is_some spare)) LacksItem → IfNone spare P → is_some spare ≡ false → LacksAnItem s t key call × P
      bare None turn less e = (turn, less)
      bare (Some x) turn less e = absurd (cc)

  -- a call that found its partition full
  pub full : (spare : Bool) (out : CoreOut Record Record RecordCall (Option Record)) (size : ℕ) (back : Option Chunk) → out ≡ TooFull size back
      → Turned stepped s.pass t.pass (home_of key) (Call (key ∷ []) call spare) (outcome_of out)
      → words_of t + 20 * one_if spare ≡ words_of s + 20 * one_if (is_some back) → FindsFull s t key call size
  full spare out size back e turn words =
      let found = subst (λ (z : CoreOut Record Record RecordCall (Option Record)). Turned stepped s.pass t.pass (home_of key) (Call (key ∷ []) call spare) (outcome_of z)) e turn in
      let same = ap one_if (turn_legal stepped _ _ _ _ _ (home_of key) (Call (key ∷ []) call spare) (HasToGrow size (is_some back)) found).1.is.1.back_is in
      (spare, is_some back, found, omega arith)
