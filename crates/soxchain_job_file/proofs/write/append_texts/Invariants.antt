use Rattle.std.proofs.Common.{◌≡◌, ◌++◌, flat_map, length, map, string_bytes, take}
use Rattle.soxchain_job_file.specs.JobBytes.{text_bytes, word_bytes}
use Rattle.soxchain_job_file.proofs.write.append_texts.Given as goal

abbrev pub invariant-loop-text : goal.invariant-loop-text
invariant-loop-text l =
    l.bytes.items ≡ l.fn.bytes.items ++ (word_bytes (length (map string_bytes l.texts)) ++ flat_map text_bytes (map string_bytes (take l.text-index l.texts)))
