use Rattle.std.proofs.Common.{◌++◌, ◌∙◌, ℕ, Err, List, ap, refl}
use Rattle.state_whole.specs.Files.{file_bytes}
use Rattle.state_partial.specs.Words.{asked_of}
use Rattle.state_partial.proofs.Files.{keys_read, long_part, no_room, on_true, part_text}
use Rattle.state_partial.proofs.file.file_of.Goals as goal

pub push_all-requires-clause-shape : goal.push_all-requires-clause-shape
push_all-requires-clause-shape g c κs within = c.shape.ensures.fits _ c.in-Ok.ensures.plan

pub push_all-requires-clause-keys : goal.push_all-requires-clause-keys
push_all-requires-clause-keys g c κs within =
    let read = c.requires.read in
    let shape = c.shape.result in
    let is = c.in-Ok.ensures in
    keys_read c.args.plan read.0 c.args.part read.1 _ c.in-Ok.plan shape c.as_slice.ensures.value is.plan is.same (c.shape.ensures.of_plan _ is.plan)

pub returns-in-Ok-push_all-clause-file : goal.returns-in-Ok-push_all-clause-file
returns-in-Ok-push_all-clause-file g c = λ words bytes read is_asked are_read part.
    let file = c.in-Ok-push_all.ensures.file in
    let shape = c.shape.result in
    let is = c.in-Ok.ensures in
    part_text words (asked_of c.args.asked.now) c.args.plan bytes read c.args.part part c.args.place _ c.in-Ok.plan shape _ file.0 c.push_all.new.out.items is_asked c.requires.ask are_read
    c.plan_words.ensures c.as_slice.ensures.value refl c.in-Ok-cover_of.ensures.cover c.all_keys.ensures is.plan is.same (c.shape.ensures.of_plan _ is.plan) refl c.groups_are_told.ensures c.saved_is_read.ensures
    (on_true c.fits_head-fits.result c.if-not-fits.false c.fits_head-fits.ensures.words)
    (on_true c.fits_head-fits.result c.if-not-fits.false c.fits_head-fits.ensures.header)
    c.requires.part c.in-Ok-cover_of.ensures.few c.in-Ok-cover_of.ensures.is_cover c.in-Ok-push_all.ensures.short file.1
    (file.2 ∙ ap (λ (l : List ℕ). l ++ file_bytes shape.kinds.now file.0) c.new-file.ensures.items)

pub returns-then-not-fits-clause-long : goal.returns-then-not-fits-clause-long
returns-then-not-fits-clause-long g c = λ e bytes read are part.
    no_room (asked_of c.args.asked.now) c.args.plan bytes read c.args.part part c.args.place _ _ c.requires.ask are c.plan_words.ensures c.as_slice.ensures.value (c.fits_head-fits.ensures.no_room c.if-not-fits.true)

pub returns-clause-long : goal.returns-clause-long
returns-clause-long g c = λ e bytes read are part.
    let shape = c.shape.result in
    let is = c.in-Ok.ensures in
    long_part (asked_of c.args.asked.now) c.args.plan bytes read c.args.part part c.args.place _ c.in-Ok.plan shape c.requires.ask are c.plan_words.ensures c.as_slice.ensures.value refl c.in-Ok-cover_of.ensures.cover c.all_keys.ensures is.plan
    is.same (c.shape.ensures.of_plan _ is.plan) (c.shape.ensures.fits _ is.plan) c.groups_are_told.ensures c.long_is_known.ensures (c.in-Err-Long.ensures.long (ap Err c.in-Err-Long.field-0-is))
