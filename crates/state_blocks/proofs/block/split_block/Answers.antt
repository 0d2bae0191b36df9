use Rattle.std.proofs.Common.{◌++◌, ap, arith, length, length-append, sym}
use Rattle.std.specs.Int.{to_le_bytes, w32}
use Rattle.state_file.specs.Checksum.{crc32c}
use Rattle.state_blocks.proofs.Tuples.{section_parts, split_long, sum_long}
use Rattle.state_blocks.proofs.block.split_block.Goals as goal

pub returns-in_default-clause-written : goal.returns-in_default-clause-written
returns-in_default-clause-written c = λ part rest few e. c.in_default.ensures.written (length part) (part ++ (to_le_bytes w32 (crc32c part) ++ rest)) few (section_parts c.args.bytes.now part rest e)

pub returns-in_default-read_bytes-clause-written : goal.returns-in_default-read_bytes-clause-written
returns-in_default-read_bytes-clause-written c = λ part rest few e.
    let one = c.in-Some.ensures.written (length part) (part ++ (to_le_bytes w32 (crc32c part) ++ rest)) few (section_parts c.args.bytes.now part rest e) in
    c.in_default-read_bytes.ensures.written part (to_le_bytes w32 (crc32c part) ++ rest) (sym one.0) one.1

pub returns-in-Some-read_bytes-2-clause-written : goal.returns-in-Some-read_bytes-2-clause-written
returns-in-Some-read_bytes-2-clause-written c = λ part rest few e.
    let one = c.in-Some.ensures.written (length part) (part ++ (to_le_bytes w32 (crc32c part) ++ rest)) few (section_parts c.args.bytes.now part rest e) in
    let two = c.in-Some-read_bytes.ensures.written part (to_le_bytes w32 (crc32c part) ++ rest) (sym one.0) one.1 in
    let three = c.in-Some-read_bytes-2.ensures.written (to_le_bytes w32 (crc32c part)) rest (sum_long part) two.1 in
    (two.0, three.1)

pub returns-in-None-clause-written : goal.returns-in-None-clause-written
returns-in-None-clause-written c = λ part rest few e.
    let one = c.in-Some.ensures.written (length part) (part ++ (to_le_bytes w32 (crc32c part) ++ rest)) few (section_parts c.args.bytes.now part rest e) in
    let two = c.in-Some-read_bytes.ensures.written part (to_le_bytes w32 (crc32c part) ++ rest) (sym one.0) one.1 in
    c.in-None.ensures.written (to_le_bytes w32 (crc32c part)) rest (sum_long part) two.1

pub returns-in-Some-read_bytes-2-clause-long : goal.returns-in-Some-read_bytes-2-clause-long
returns-in-Some-read_bytes-2-clause-long c =
    let two = c.in-Some-read_bytes.ensures.read in
    let three = c.in-Some-read_bytes-2.ensures.read in
    split_long _ _ _ _ _ _ c.in-Some.size c.in-Some.ensures.read two.0 three.0 three.1
