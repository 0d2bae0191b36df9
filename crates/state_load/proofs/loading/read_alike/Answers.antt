use Rattle.std.proofs.Common.{◌∙◌, ap, inl, inr}
use Rattle.state_head.specs.Head.{Preface, preface_of, subject_of}
use Rattle.state_head.specs.Words.{keys_of}
use Rattle.state_load.proofs.Causes.{same_range, same_subject}
use Rattle.state_load.proofs.loading.read_alike.Goals as goal

pub returns-in-Err-check_whole-clause-written : goal.returns-in-Err-check_whole-clause-written
returns-in-Err-check_whole-clause-written c = λ p rest is subject keys e.
    let same = (c.in-Ok.ensures.written p rest is e).0 in
    absurd (same_subject (subject_of c.args.whole) (subject_of c.in-Ok.front.head.whole) c.in-Err-check_whole.why c.in-Err-check_whole.ensures.refused (ap (λ (q : Preface). q.subject) same ∙ subject))

pub returns-in-Err-check_whole-clause-refused : goal.returns-in-Err-check_whole-clause-refused
returns-in-Err-check_whole-clause-refused c =
    let read = c.in-Ok.ensures.read in
    record { front = preface_of c.in-Ok.front.head; is_front = read.1; rest = c.in-Ok.front.rest.now; is = read.0; differs = inl c.in-Err-check_whole.ensures.refused }

pub returns-clause-written : goal.returns-clause-written
returns-clause-written c = λ p rest is subject keys e.
    let same = (c.in-Ok.ensures.written p rest is e).0 in
    absurd (same_range (keys_of c.args.range) (keys_of c.in-Ok.front.head.range) c.in-Err-check_range.why c.in-Err-check_range.ensures.refused (ap (λ (q : Preface). q.keys) same ∙ keys))

pub returns-clause-refused : goal.returns-clause-refused
returns-clause-refused c =
    let read = c.in-Ok.ensures.read in
    record { front = preface_of c.in-Ok.front.head; is_front = read.1; rest = c.in-Ok.front.rest.now; is = read.0; differs = inr c.in-Err-check_range.ensures.refused }

pub returns-in-Ok-check_range-clause-read : goal.returns-in-Ok-check_range-clause-read
returns-in-Ok-check_range-clause-read c =
    let read = c.in-Ok.ensures.read in
    record { is_front = read.1; is = read.0; at = read.2; subject_is = c.in-Ok-check_whole.ensures.same; keys_are = c.in-Ok-check_range.ensures.same }

pub returns-in-Ok-check_range-clause-written : goal.returns-in-Ok-check_range-clause-written
returns-in-Ok-check_range-clause-written c = λ p rest is subject keys e. c.in-Ok.ensures.written p rest is e
