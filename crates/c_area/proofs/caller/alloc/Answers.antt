use Rattle.std.proofs.Common.{◌≡◌, ℕ, ◌≤◌, refl, sym, ap, subst, ◌∙◌, arith}
use Rattle.std_alloc.specs.Arc.{arc_value}
use Rattle.slab.specs.Slab.{HasRoomFor}
use Rattle.lock_book.specs.Shown.{Called, number_of}
use Rattle.dsa_area.proofs.Chunks.{chunk_holds}
use Rattle.c_area.specs.Arenas.{name_in}
use Rattle.c_area.specs.States.{Granted, Request}
use Rattle.c_area.specs.declared.locked.AreaAnswer.TheVariants.{Given}
use Rattle.c_area.specs.declared.shared.Share.{Share}
use Rattle.c_area.proofs.Keeping.{gains_of, reserved}
use Rattle.c_area.proofs.Turns.{a_word, granted_fits, refused, told, turn_chunks, turn_share, turn_stays}
use Rattle.c_area.proofs.caller.alloc.Goals as goal

pub keep-number-requires-clause-share : goal.keep-number-requires-clause-share
keep-number-requires-clause-share c = turn_share c.args.share.now c.make_place.new.chunks c.ask_area.new.share c.make_place.ensures.same c.ask_area.ensures.rest c.requires.share c.ask_area.ensures.own.0

pub keep-number-requires-clause-here : goal.keep-number-requires-clause-here
keep-number-requires-clause-here c =
    (granted_fits (name_in (arc_value c.args.share.now.shared).region (arc_value c.args.share.now.shared).pages) c.args.bytes c.in-Ok-Given.field-0 c.in-Ok-Given.chunk c.in-Ok-Given.field-0-is c.in-Ok-Given.ensures.fits).1 ∙ sym (ap (λ (x : Share). (arc_value x.shared).region) c.ask_area.ensures.rest)

pub keep-number-requires-clause-some : goal.keep-number-requires-clause-some
keep-number-requires-clause-some c =
    let size = (granted_fits (name_in (arc_value c.args.share.now.shared).region (arc_value c.args.share.now.shared).pages) c.args.bytes c.in-Ok-Given.field-0 c.in-Ok-Given.chunk c.in-Ok-Given.field-0-is c.in-Ok-Given.ensures.fits).0 in
    a_word c.in-Ok-Given.chunk.bytes c.args.bytes c.in-Ok-Given.chunk.whole (subst (λ (z : ℕ). c.args.bytes ≤ z) (sym size) (chunk_holds c.args.bytes)) (let low : 1 ≤ c.args.bytes = omega arith in low)

pub keep-number-requires-clause-place : goal.keep-number-requires-clause-place
keep-number-requires-clause-place c = subst (λ (x : Share). HasRoomFor x.chunks 1) (sym c.ask_area.ensures.rest) (c.make_place.ensures.place c.if-not-make_place.false)

pub returns-in-Ok-Given-clause-allocs : goal.returns-in-Ok-Given-clause-allocs
returns-in-Ok-Given-clause-allocs c =
    let s = c.args.share.now in
    let u = c.ask_area.new.share in
    let t = c.keep-number.new.share in
    let chunk = c.in-Ok-Given.chunk in
    let rest = c.ask_area.ensures.rest in
    let kept = c.keep-number.ensures.rest in
    let size = (granted_fits (name_in (arc_value c.args.share.now.shared).region (arc_value c.args.share.now.shared).pages) c.args.bytes c.in-Ok-Given.field-0 chunk c.in-Ok-Given.field-0-is c.in-Ok-Given.ensures.fits).0 in
    let turn = turn_chunks s c.make_place.new.chunks u c.make_place.ensures.same rest in
    let stays = turn_stays s c.make_place.new.chunks u c.make_place.ensures.same rest c.ask_area.ensures.own.1 in
    let made = told s u (Request c.args.bytes) c.in-Ok-Given.field-0 (Given chunk) c.in-Ok-Given.field-0-is c.in-Ok-Given.ensures.made in (
      record { shared = kept.0 ∙ stays.shared; caller = ap number_of kept.1 ∙ stays.caller; others = kept.2 ∙ stays.others },
      (
        chunk.at,
        subst (λ p. Called (arc_value s.shared).shelf s.pass p 0 (Request c.args.bytes) (Granted chunk.at)) (sym kept.1) made,
        size,
        subst (λ (z : ℕ). c.args.bytes ≤ z) (sym size) (chunk_holds c.args.bytes),
        gains_of u s t t c.keep-number.result _ (λ i. sym (turn.chunks i)) (sym turn.words) (λ i. refl) refl c.keep-number.ensures.gains,
      ),
    )

pub returns-in-Ok-Lacking-clause-share : goal.returns-in-Ok-Lacking-clause-share
returns-in-Ok-Lacking-clause-share c = turn_share c.args.share.now c.make_place.new.chunks c.ask_area.new.share c.make_place.ensures.same c.ask_area.ensures.rest c.requires.share c.ask_area.ensures.own.0

pub returns-in-Ok-Lacking-clause-allocs : goal.returns-in-Ok-Lacking-clause-allocs
returns-in-Ok-Lacking-clause-allocs c =
    let s = c.args.share.now in
    let u = c.ask_area.new.share in
    let rest = c.ask_area.ensures.rest in
    (turn_stays s c.make_place.new.chunks u c.make_place.ensures.same rest c.ask_area.ensures.own.1, refused s u (Request c.args.bytes) c.in-Ok-Lacking.field-0 _ c.in-Ok-Lacking.field-0-is c.in-Ok-Lacking.ensures.made, turn_chunks s c.make_place.new.chunks u c.make_place.ensures.same rest)

pub returns-clause-share : goal.returns-clause-share
returns-clause-share c = turn_share c.args.share.now c.make_place.new.chunks c.ask_area.new.share c.make_place.ensures.same c.ask_area.ensures.rest c.requires.share c.ask_area.ensures.own.0

pub returns-then-not-make_place-clause-share : goal.returns-then-not-make_place-clause-share
returns-then-not-make_place-clause-share c = reserved c.args.share.now c.make_place.new.chunks c.requires.share c.make_place.ensures.same
