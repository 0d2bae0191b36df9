use Rattle.std.proofs.Common.{◌++◌, ◌∙◌, FitsSigned, rules, sym}
use Rattle.std.proofs.lemmas.Int.{to_z-of_z}
use Rattle.std.specs.Int.{w128}
use Rattle.state_file.specs.Number.{folded, number_bytes}
use Rattle.state_groups.specs.Slot.{spread}
use Rattle.state_groups.proofs.Slots.{integers_read, integers_written, least_fits, spread_fits, sum_fits}
use Rattle.state_groups.proofs.slot.read_integers.Goals as goal

pub returns-in-Some-slot_of-clause-read : goal.returns-in-Some-slot_of-clause-read
returns-in-Some-slot_of-clause-read c =
    let is = c.in-Some-slot_of.ensures.is in
    let sum : FitsSigned w128 c.in-Some.sum = search rules in
    let least : FitsSigned w128 c.in-Some-read_signed.least = search rules in
    (
      integers_read c.args.bytes.now c.in-Some.after.now c.in-Some-read_signed.after.now c.in-Some-read_number.rest.now c.in-Some.sum c.in-Some-read_signed.least c.in-Some-read_number.above c.in-Some-slot_of.slot
      c.in-Some.ensures.read c.in-Some-read_signed.ensures.read c.in-Some-read_number.ensures.read (is.2 ∙ to_z-of_z w128 c.in-Some.sum sum) (is.3 ∙ to_z-of_z w128 c.in-Some-read_signed.least least) is.4,
      is.0,
      is.1,
    )

pub returns-in-Some-slot_of-clause-written : goal.returns-in-Some-slot_of-clause-written
returns-in-Some-slot_of-clause-written c = λ slot rest is same e.
    let sum : FitsSigned w128 c.in-Some.sum = search rules in
    let least : FitsSigned w128 c.in-Some-read_signed.least = search rules in
    let a = c.in-Some.ensures.written slot.sum (number_bytes (folded slot.least) ++ (number_bytes (spread slot) ++ rest)) (sum_fits slot c.args.count is same c.requires) (integers_written c.args.bytes.now rest slot e) in
    let b = c.in-Some-read_signed.ensures.written slot.least (number_bytes (spread slot) ++ rest) (least_fits slot is) a.1 in
    let d = c.in-Some-read_number.ensures.written (spread slot) rest (spread_fits slot is) b.1 in
    let whole = c.in-Some-slot_of.ensures.none slot is same (sym a.0 ∙ sym (to_z-of_z w128 c.in-Some.sum sum)) (sym b.0 ∙ sym (to_z-of_z w128 c.in-Some-read_signed.least least)) (sym d.0) in
    (cc, d.1)

pub returns-in-None-clause-written : goal.returns-in-None-clause-written
returns-in-None-clause-written c = λ slot rest is same e.
    let sum : FitsSigned w128 c.in-Some.sum = search rules in
    let least : FitsSigned w128 c.in-Some-read_signed.least = search rules in
    let a = c.in-Some.ensures.written slot.sum (number_bytes (folded slot.least) ++ (number_bytes (spread slot) ++ rest)) (sum_fits slot c.args.count is same c.requires) (integers_written c.args.bytes.now rest slot e) in
    let b = c.in-Some-read_signed.ensures.written slot.least (number_bytes (spread slot) ++ rest) (least_fits slot is) a.1 in
    let d = c.in-Some-read_number.ensures.written (spread slot) rest (spread_fits slot is) b.1 in
    let none = c.in-None.ensures.none slot is same (sym a.0 ∙ sym (to_z-of_z w128 c.in-Some.sum sum)) (sym b.0 ∙ sym (to_z-of_z w128 c.in-Some-read_signed.least least)) (sym d.0) in
    cc
