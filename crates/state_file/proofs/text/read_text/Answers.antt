use Rattle.std.proofs.Common.{◌≡◌, ◌++◌, ◌∙◌, List, ℕ, length, ap, sym, append_assoc, arith}
use Rattle.state_file.specs.Number.{number_bytes}
use Rattle.state_file.specs.Text.{text_bytes}
use Rattle.state_file.proofs.text.read_text.Goals as goal

-- bytes that begin with a text
written_as : (bytes text rest : List ℕ) → bytes ≡ text_bytes text ++ rest → bytes ≡ number_bytes (length text) ++ (text ++ rest)
unfolding text_bytes
written_as bytes text rest e = e ∙ append_assoc (number_bytes (length text)) text rest

read_as : (bytes after text rest : List ℕ) (size : ℕ) → bytes ≡ number_bytes size ++ after → after ≡ text ++ rest → length text ≡ size → bytes ≡ text_bytes text ++ rest
unfolding text_bytes
read_as bytes after text rest size e f long =
    e ∙ ap (λ (n : ℕ). number_bytes n ++ after) (sym long) ∙ ap (λ (bs : List ℕ). number_bytes (length text) ++ bs) f ∙ sym (append_assoc (number_bytes (length text)) text rest)

pub returns-in_default-clause-written : goal.returns-in_default-clause-written
returns-in_default-clause-written c = λ text rest few e. c.in_default.ensures.written (length text) (text ++ rest) few (written_as c.args.bytes.now text rest e)

pub returns-in-Some-read_bytes-clause-read : goal.returns-in-Some-read_bytes-clause-read
returns-in-Some-read_bytes-clause-read c =
    let found = c.in-Some-read_bytes.ensures.read in
    let most = c.in-Some.ensures.read.1 in
    (read_as c.args.bytes.now c.in-Some.after.now c.in-Some-read_bytes.text.now c.in-Some-read_bytes.rest.now c.in-Some.size c.in-Some.ensures.read.0 found.0 found.1, omega (arith, found.1, most))

pub returns-in-Some-read_bytes-clause-written : goal.returns-in-Some-read_bytes-clause-written
returns-in-Some-read_bytes-clause-written c = λ text rest few e.
    let a = c.in-Some.ensures.written (length text) (text ++ rest) few (written_as c.args.bytes.now text rest e) in
    c.in-Some-read_bytes.ensures.written text rest (sym a.0) a.1

pub returns-in-None-clause-written : goal.returns-in-None-clause-written
returns-in-None-clause-written c = λ text rest few e.
    let a = c.in-Some.ensures.written (length text) (text ++ rest) few (written_as c.args.bytes.now text rest e) in
    c.in-None.ensures.written text rest (sym a.0) a.1
