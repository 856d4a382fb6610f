use Rattle.std.proofs.Common.{◌≡◌, ◌++◌, flat_map, length, take}
use Rattle.soxchain_job_file.specs.JobBytes.{word_bytes}
use Rattle.soxchain_job_file.proofs.write.append_numbers.Given as goal

abbrev pub invariant-loop-number : goal.invariant-loop-number
invariant-loop-number l = l.bytes.items ≡ l.fn.bytes.items ++ (word_bytes (length l.numbers) ++ flat_map word_bytes (take l.number-index l.numbers))
