use Rattle.std.proofs.Common.{◌++◌, ◌∙◌, Err, ℕ, List, ap, inr}
use Rattle.state_combine.specs.Combined.{IsTooLong}
use Rattle.state_combine.specs.declared.combining.CombineFault.{CombineFault}
use Rattle.state_source.proofs.Rests.{of_as, of_more}
use Rattle.state_whole.specs.Files.{file_bytes}
use Rattle.state_query.specs.Inputs.{AreOneFile, IsLoaded, all_keys}
use Rattle.state_query.specs.Whys.{IsReadStop, IsStopOf}
use Rattle.state_query.proofs.Ends.{by_input, input_by_shape, keys_by_shape, not_combined, one_file, stretches_loaded}
use Rattle.state_query.proofs.Known.{no_read}
use Rattle.state_query.proofs.Sums.{with_shape}
use Rattle.state_query.proofs.outcome.one_file.Goals as goal

pub push_combined-requires-clause-keys : goal.push_combined-requires-clause-keys
push_combined-requires-clause-keys g c =
    let is = c.in_ok-loaded.ensures.loaded in
    keys_by_shape (c.in_ok-first.first.bytes.items ++ is.0) c.in_ok-loaded.loaded c.shape.result is.2 (c.shape.ensures.of_plan is.2.input.subject is.2.is_plan)

pub push_combined-requires-clause-stretches : goal.push_combined-requires-clause-stretches
push_combined-requires-clause-stretches g c =
    let is = c.in_ok-loaded.ensures.loaded in
    stretches_loaded (c.in_ok-first.first.bytes.items ++ is.0) c.in_ok-loaded.loaded is.2

pub returns-in-Ok-clause-one : goal.returns-in-Ok-clause-one
returns-in-Ok-clause-one g c =
    let l = c.in_ok-loaded.loaded in
    let first = c.in_ok-first.first.bytes.items in
    let out = c.push_combined.new.out.items in
    let shape = c.shape.result in
    let file = c.in-Ok.ensures.file in
    let left = g.S.Source.left c.first_of.new.source in
    of_more (g.S.Source.left c.args.source.now) left first (λ bytes. AreOneFile bytes out) c.in_ok-first.ensures.reads
    (of_as left (λ more. IsLoaded all_keys (first ++ more) l) (λ more. AreOneFile (first ++ more) out)
    (λ more is. one_file (first ++ more) l shape file.0 out is (c.shape.ensures.of_plan is.input.subject is.is_plan) file.1 (file.2 ∙ ap (λ (bs : List ℕ). bs ++ file_bytes shape.kinds.now file.0) c.new-file.ensures.items))
    c.in_ok-loaded.ensures.loaded)

pub returns-clause-why : goal.returns-clause-why
returns-clause-why g c =
    let l = c.in_ok-loaded.loaded in
    let first = c.in_ok-first.first.bytes.items in
    let shape = c.shape.result in
    let left = g.S.Source.left c.first_of.new.source in
    let stop_by : (bytes : List ℕ) → IsLoaded all_keys bytes l → IsStopOf bytes c.of_combine.result = λ bytes is.
    let of = c.shape.ensures.of_plan is.input.subject is.is_plan in
    c.of_combine.ensures bytes (with_shape is.input shape) (input_by_shape bytes l shape is of) (not_combined bytes l c.in-Err.why is c.in-Err.ensures.refused)
    (λ e. by_input bytes l shape is of (λ s k m ss. IsTooLong shape s k m ss) (c.in-Err.ensures.long (ap (λ (w : CombineFault). Err w) e)))
    in
    of_more (g.S.Source.left c.args.source.now) left first (λ bytes. IsReadStop bytes c.of_combine.result) c.in_ok-first.ensures.reads
    (of_as left (λ more. IsLoaded all_keys (first ++ more) l) (λ more. IsReadStop (first ++ more) c.of_combine.result) (λ more is. inr (stop_by (first ++ more) is)) c.in_ok-loaded.ensures.loaded)

pub returns-clause-read_fault : goal.returns-clause-read_fault
returns-clause-read_fault g c = λ e.
    let l = c.in_ok-loaded.loaded in
    let shape = c.shape.result in
    let bytes = c.in_ok-first.first.bytes.items ++ c.in_ok-loaded.ensures.loaded.0 in
    let is = c.in_ok-loaded.ensures.loaded.2 in
    let of = c.shape.ensures.of_plan is.input.subject is.is_plan in
    let stop_is = c.of_combine.ensures bytes (with_shape is.input shape) (input_by_shape bytes l shape is of) (not_combined bytes l c.in-Err.why is c.in-Err.ensures.refused)
    (λ e. by_input bytes l shape is of (λ s k m ss. IsTooLong shape s k m ss) (c.in-Err.ensures.long (ap (λ (w : CombineFault). Err w) e)))
    in
    absurd (no_read bytes c.of_combine.result stop_is e)
