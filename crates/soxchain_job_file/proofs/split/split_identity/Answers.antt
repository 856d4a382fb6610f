use Rattle.std.proofs.Common.{map, string_bytes}
use Rattle.soxchain_job_file.proofs.Splitting.{identity_lacks_files, identity_lacks_size, identity_lacks_modified}
use Rattle.soxchain_job_file.proofs.split.split_identity.Goals as goal

pub returns-in_default-2 : goal.returns-in_default-2
returns-in_default-2 c =
    identity_lacks_files c.args.bytes.now c.in-Some.rest.now (map string_bytes c.in-Some.words.items) (rw c.in-Some.is at c.in_ok-words.ensures)
    (rw c.in_default-2.is at c.in_ok-files.ensures)

pub returns-in_default-split_word : goal.returns-in_default-split_word
returns-in_default-split_word c =
    identity_lacks_size c.args.bytes.now c.in-Some.rest.now (map string_bytes c.in-Some.words.items) (rw c.in-Some.is at c.in_ok-words.ensures)
    c.in-Some-2.rest.now c.in-Some-2.files.items (rw c.in-Some-2.is at c.in_ok-files.ensures) c.in_default-split_word.ensures

pub returns-in_default-split_stamp : goal.returns-in_default-split_stamp
returns-in_default-split_stamp c =
    identity_lacks_modified c.args.bytes.now c.in-Some.rest.now (map string_bytes c.in-Some.words.items) (rw c.in-Some.is at c.in_ok-words.ensures)
    c.in-Some-2.rest.now c.in-Some-2.files.items (rw c.in-Some-2.is at c.in_ok-files.ensures)
    c.in-Some-split_word.rest.now c.in-Some-split_word.size c.in-Some-split_word.ensures c.in_default-split_stamp.ensures
