-- What a worker has done and said when it ends.
use Rattle.std.proofs.Common.{◌≡◌, ◌⊎◌, ◌++◌, inl, inr, ℕ, List, [], ◌∷◌, length, All, Contains, IsTrue, None, true, refl, ap, sym, subst, ◌∙◌, arith, append-nil}
use Rattle.std.specs.FinMap as map
use Rattle.std.specs.List.{flat_map}
use Rattle.std.proofs.lemmas.List.Elements.{All-append, All-cons, All-nil, Contains-push}
use Rattle.csv_rows.specs.Records.{record_at}
use Rattle.error_queue.specs.Message.{IsMessage, encoding}
use Rattle.error_queue.specs.declared.ErrorMessage.TheVariants as message
use Rattle.mq_handle.specs.Messages.{whole_of}
use Rattle.par_model.specs.Plan.{Plan}
use Rattle.par_model.specs.Refuse.{refusal}
use Rattle.partial_agg.specs.Blocks.{Stopped as IsStoppedAt}
use Rattle.partial_agg.specs.Groups.{GroupsByKey}
use Rattle.partial_agg.specs.Rows.{IsAccepted, header_width}
use Rattle.partial_agg.specs.declared.map.BlockAnswer.{BlockAnswer}
use Rattle.partial_agg.specs.declared.map.BlockAnswer.TheVariants as answer
use Rattle.row_blocks.proofs.BlockRows.{length-block}
use Rattle.row_blocks.specs.Blocks.{AreBlocks, Table}
use Rattle.ring_rule.specs.Ring.{Sending}
use Rattle.scan_claim.specs.Drawing.{is_spent}
use Rattle.gather_law.specs.Tuples.{Group, IsTupleOf}
use Rattle.worker_run.specs.Ended.{HasEnded, HasRefused, IsNotice, IsOwnRow, IsRefused, found_gone, sends_of}
use Rattle.worker_run.specs.Sent.{AreWritten, FoundGone, HasSent, StoppedSending, tuples_of}
use Rattle.worker_run.specs.Notices.{GivesUp}
use Rattle.worker_run.specs.Job.{DrawsNone}
use Rattle.worker_run.specs.Steps.{HasFinished}
use Rattle.worker_run.specs.Working.{IsWorking}
use Rattle.worker_run.specs.declared.WorkerEnd.{WorkerEnd}
use Rattle.worker_run.specs.declared.WorkerEnd.TheVariants.{Finished, Stopped}
use Rattle.worker_run.proofs.Working.{late_draw, working-flush}

pub gone_is : (s : Sending) → s.flag_value ≡ 1 → found_gone s ≡ true
gone_is s e = rw e refl

module _ (plan : Plan) (records : Table) where
  -- ---- what was sent

  pub written_are : (groups : List Group) → AreWritten (length plan.items) groups → All (IsTupleOf plan) (tuples_of (length plan.items) groups)
  written_are [] w = All-nil (IsTupleOf plan)
  written_are (g ∷ groups) w =
      All-cons (IsTupleOf plan) _ (tuples_of (length plan.items) groups) (record { group = g; has = w.0; is = refl }) (written_are groups w.1)

  pub working_tuples : (draws : List ℕ) (groups : GroupsByKey) (errors tuples : Sending) → IsWorking plan records draws groups errors tuples → All (IsTupleOf plan) (whole_of tuples.put)
  working_tuples draws groups errors tuples w = subst (All (IsTupleOf plan)) (sym w.sent) (written_are w.done w.written)

  pub more_tuples : (gs : List Group) (old new : Sending) → All (IsTupleOf plan) (whole_of old.put) → AreWritten (length plan.items) gs → whole_of new.put ≡ whole_of old.put ++ tuples_of (length plan.items) gs
      → All (IsTupleOf plan) (whole_of new.put)
  more_tuples gs old new h w e = subst (All (IsTupleOf plan)) (sym e) (All-append (IsTupleOf plan) (whole_of old.put) (tuples_of (length plan.items) gs) h (written_are gs w))

  pub silent_yet : (errors errors' : Sending) → whole_of errors.put ≡ [] → whole_of errors'.put ≡ whole_of errors.put ++ [] → whole_of errors'.put ≡ []
  silent_yet errors errors' e f = f ∙ append-nil (whole_of errors.put) ∙ e

  pub silence : (draws : List ℕ) (errors : Sending) → whole_of errors.put ≡ [] → All (IsNotice plan records draws) (whole_of errors.put)
  silence draws errors e = subst (All (IsNotice plan records draws)) (sym e) (All-nil (IsNotice plan records draws))

  -- ---- no more blocks

  pub has_finished : (blocks : ℕ) (draws draws' : List ℕ) (groups : GroupsByKey) (errors tuples errors' tuples' : Sending) → AreBlocks records blocks → IsWorking plan records draws groups errors tuples
      → DrawsNone blocks draws draws' → IsTrue (is_spent blocks draws') → HasFinished (length plan.items) None None groups errors tuples errors' tuples'
      → HasEnded plan records blocks draws' (sends_of errors' tuples') Finished
  unfolding working-flush
  has_finished blocks draws draws' groups errors tuples errors' tuples' a w late spent f =
      let flushed = working-flush plan records draws groups map.empty errors tuples tuples' w f.passed in
      let same = late_draw plan records blocks draws draws' a late in
      let said : whole_of errors'.put ≡ encoding message.End ∷ [] = f.said.sent ∙ ap (λ l. l ++ encoding message.End ∷ []) w.silent in
      record {
        ended = record {
          spent = spent;
          accepted = subst (All (IsAccepted plan (header_width records))) (sym same) w.accepted;
          sent = record {
            batches = flushed.batches;
            cut = sym (append-nil (flat_map (λ batch. batch) flushed.batches)) ∙ flushed.cut ∙ sym same;
            groups = flushed.done;
            all = flushed.all;
            sent = flushed.sent;
            written = flushed.written;
          };
          said = said;
        };
        notices = subst (All (IsNotice plan records draws')) (sym said) (All-cons (IsNotice plan records draws') (encoding message.End) [] (inr refl) (All-nil (IsNotice plan records draws')));
        tuples = working_tuples draws map.empty errors tuples' flushed;
      }

  -- a worker that has said nothing yet, and all of whose messages are tuples, finds the receiver of its notices gone
  pub stopped_saying : (blocks : ℕ) (draws : List ℕ) (errors errors' tuples : Sending) → whole_of errors.put ≡ [] → All (IsTupleOf plan) (whole_of tuples.put) → FoundGone errors errors' []
      → HasEnded plan records blocks draws (sends_of errors' tuples) Stopped
  stopped_saying blocks draws errors errors' tuples e t f =
      let quiet = silent_yet errors errors' e f.sent in
      record { ended = record { silent = quiet; found = inl (gone_is errors' f.flag) }; notices = silence draws errors' quiet; tuples = t }

  -- ---- a block that was not added whole

  pub refused_row : (block row cause item : ℕ) (old new : GroupsByKey) → IsStoppedAt plan records block old new (answer.Row row cause item) → IsRefused plan records row cause item
  refused_row block row cause item old new s =
      let at = s.explains.0 in
      record {
        first = omega (arith, at);
        within = omega (arith, at, s.stops, length-block records block);
        cause_is = ap (λ k. refusal plan (header_width records) (record_at records k)) at ∙ s.explains.1;
      }

  pub own_row : (draws draws' : List ℕ) (block row cause item : ℕ) (old new : GroupsByKey) → draws' ≡ draws ++ block ∷ [] → IsStoppedAt plan records block old new (answer.Row row cause item) → IsOwnRow draws' row
  own_row draws draws' block row cause item old new e s =
      let at = s.explains.0 in
      record {
        block = block;
        drawn = subst (λ ds. Contains ds block) (sym e) (Contains-push draws block);
        from = omega (arith, at);
        to = omega (arith, at, s.stops, length-block records block);
      }

  -- a worker that has said nothing yet names a refused row of its own, or finds the receiver gone
  pub names_row : (draws : List ℕ) (row cause item : ℕ) (errors errors' tuples : Sending) → whole_of errors.put ≡ [] → IsRefused plan records row cause item → IsOwnRow draws row → IsMessage (message.Row row cause item)
      → HasSent errors errors' (encoding (message.Row row cause item) ∷ []) ⊎ FoundGone errors errors' []
      → HasRefused plan records draws (sends_of errors' tuples) row cause item × All (IsNotice plan records draws) (whole_of errors'.put)
  names_row draws row cause item errors errors' tuples silent refused own fits (inl sent) =
      let said : whole_of errors'.put ≡ encoding (message.Row row cause item) ∷ [] = sent.sent ∙ ap (λ l. l ++ encoding (message.Row row cause item) ∷ []) silent in (
        record { refused = refused; own = own; said = inl said },
        subst (All (IsNotice plan records draws)) (sym said)
            (All-cons (IsNotice plan records draws) (encoding (message.Row row cause item)) []
            (inl (record { row = row; cause = cause; item = item; is = refl; fits = fits; refused = refused; own = own })) (All-nil (IsNotice plan records draws))),
      )
  names_row draws row cause item errors errors' tuples silent refused own fits (inr found) =
      let quiet = silent_yet errors errors' silent found.sent in (record { refused = refused; own = own; said = inr (quiet, gone_is errors' found.flag) }, silence draws errors' quiet)

  pub has_given_up : (blocks : ℕ) (draws draws' : List ℕ) (block : ℕ) (old new : GroupsByKey) (errors tuples errors' : Sending) (why : BlockAnswer) (end : WorkerEnd)
      → draws' ≡ draws ++ block ∷ [] → whole_of errors.put ≡ [] → All (IsTupleOf plan) (whole_of tuples.put) → IsStoppedAt plan records block old new why → GivesUp errors errors' why end
      → HasEnded plan records blocks draws' (sends_of errors' tuples) end
  has_given_up blocks draws draws' block old new errors tuples errors' answer.Memory end e silent t s g =
      let quiet : whole_of errors'.put ≡ [] = ap (λ (s : Sending). whole_of s.put) g.1 ∙ silent in
      subst (HasEnded plan records blocks draws' (sends_of errors' tuples)) (sym g.0) (record { ended = quiet; notices = silence draws' errors' quiet; tuples = t })
  has_given_up blocks draws draws' block old new errors tuples errors' (answer.Row row cause item) end e silent t s g =
      let said = names_row draws' row cause item errors errors' tuples silent (refused_row block row cause item old new s) (own_row draws draws' block row cause item old new e s) g.1 g.2 in
      subst (HasEnded plan records blocks draws' (sends_of errors' tuples)) (sym g.0) (record { ended = said.0; notices = said.1; tuples = t })

  -- ---- a receiver that is gone

  pub has_stopped : (blocks : ℕ) (draws : List ℕ) (errors tuples tuples' : Sending) → whole_of errors.put ≡ [] → All (IsTupleOf plan) (whole_of tuples.put)
      → StoppedSending (length plan.items) tuples tuples' → HasEnded plan records blocks draws (sends_of errors tuples') Stopped
  has_stopped blocks draws errors tuples tuples' silent t s = record {
    ended = record { silent = silent; found = inr (gone_is tuples' s.found.flag) };
    notices = silence draws errors silent;
    tuples = more_tuples s.done tuples tuples' t s.written s.found.sent;
  }
