-- A new merge of a list and tables is ready over a folder, which tells nothing, and may be sought to any position; and so it is once the folder was changed: of what
-- makes it ready only that its parts are speaks of the folder.
use Rattle.rc_flow_cases.proofs.readings.read_merged.Goals as goal

pub read_head-requires : goal.read_head-requires
read_head-requires c = c.a_new_merge_stands_for_both.ensures.ready c.args.list c.args.tables c.new-stream.result tt c.args.folder.now c.new-stream.ensures tt tt (λ _ _ _ _ _ _ _. tt) (λ _ _ _ _ _ _ _. tt) (λ _ _ _ _ _ _ _ r. r) (λ _ _ _ _ _ _ _ r. r)

pub read_on-requires-clause-ready : goal.read_on-requires-clause-ready
read_on-requires-clause-ready c = (let r = c.in_ok-answered.ensures.ready in ((tt, tt), r.1, r.2))

pub read_on-requires-clause-ahead : goal.read_on-requires-clause-ahead
read_on-requires-clause-ahead c = c.in_ok-answered.ensures.ahead c.args.reading.now.from (c.a_new_merge_stands_for_both.ensures.ahead c.args.list c.args.tables c.new-stream.result c.args.reading.now.from c.new-stream.ensures (λ _ _. tt) (λ _ _. tt))
