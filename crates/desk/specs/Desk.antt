-- What the desk program answers.
use Rattle.std.specs.Prelude.{ltb, length, if◌then◌else◌}
use Rattle.dirf.specs.Bytes.{Text}
use Rattle.dirf.specs.Limits.{desk_bytes, desk_entries}
use Rattle.dirf.specs.Check.{answer_to}
use Rattle.checker.specs.Answers.{answer_of}
use Rattle.checker.specs.declared.Answer.{Answer}

-- 01, "The desk program": "Over 65,536 bytes it prints `25 0 0 0`. Its table has 3,000 entries."
unfoldable pub desk_answer : Text → Answer
desk_answer file =
    if ltb desk_bytes (length file) then record { number = 25; line = 0; field = 0; entries = 0 }
    else answer_of (answer_to file desk_entries)
