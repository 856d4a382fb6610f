use Rattle.soxchain_job_file.specs.JobBytes.{identity_value}
use Rattle.soxchain_job_file.proofs.Comparing.{words_equal, words_differ, files_equal, files_differ, identities_equal, stamps_equal, stamps_differ}
use Rattle.soxchain_job_file.proofs.compare.difference.Goals as goal

pub returns-then-ne : goal.returns-then-ne
returns-then-ne c = words_differ c.args.stored.now.words.items c.args.own.now.words.items c.ne.result c.ne.ensures c.if-ne.true

pub returns-then-ne-2 : goal.returns-then-ne-2
returns-then-ne-2 c = (
  words_equal c.args.stored.now.words.items c.args.own.now.words.items c.ne.result c.ne.ensures c.if-ne.false,
  files_differ c.args.stored.now.files.items c.args.own.now.files.items c.ne-else-ne.result c.ne-else-ne.ensures c.if-ne-2.true,
)

pub returns-then-stored-own : goal.returns-then-stored-own
returns-then-stored-own c = (
  words_equal c.args.stored.now.words.items c.args.own.now.words.items c.ne.result c.ne.ensures c.if-ne.false,
  files_equal c.args.stored.now.files.items c.args.own.now.files.items c.ne-else-ne.result c.ne-else-ne.ensures c.if-ne-2.false,
  c.if-stored-own.true,
)

pub returns-then-ne-3 : goal.returns-then-ne-3
returns-then-ne-3 c = (
  words_equal c.args.stored.now.words.items c.args.own.now.words.items c.ne.result c.ne.ensures c.if-ne.false,
  files_equal c.args.stored.now.files.items c.args.own.now.files.items c.ne-else-ne.result c.ne-else-ne.ensures c.if-ne-2.false,
  c.if-stored-own.false,
  stamps_differ c.args.stored.now.modified c.args.own.now.modified c.ne-else-stored-own.result c.ne-else-stored-own.ensures c.if-ne-3.true,
)

pub returns-else-ne-3 : goal.returns-else-ne-3
returns-else-ne-3 c =
    let words = words_equal c.args.stored.now.words.items c.args.own.now.words.items c.ne.result c.ne.ensures c.if-ne.false in
    let files = files_equal c.args.stored.now.files.items c.args.own.now.files.items c.ne-else-ne.result c.ne-else-ne.ensures c.if-ne-2.false in
    let modified = stamps_equal c.args.stored.now.modified c.args.own.now.modified c.ne-else-stored-own.result c.ne-else-stored-own.ensures c.if-ne-3.false in
    identities_equal (identity_value c.args.stored.now) (identity_value c.args.own.now) words files c.if-stored-own.false modified
