-- By the laws of what is spliced, and of a reader that goes on past the row cache.
use Rattle.rc_shard.proofs.Resaid.{told-anew}
use Rattle.rc_shard.proofs.resaying.what_is_told_anew.Goals as goal

pub returns : goal.returns
returns c = told-anew (record {
  joined = c.answer_of_joined_writes.ensures;
  all = c.writes_have_a_join.ensures.all;
  splice = c.two_mutations_have_a_splice.ensures.splice;
  splice_fits = c.a_splice_fits.ensures;
  bound = c.an_answer_is_cut_behind_each_line.ensures.bound;
  spliced = c.a_reader_goes_on_in_one_answer.ensures.spliced;
  same = c.a_reader_goes_on_in_one_answer.ensures.same;
  same_static = c.a_reader_goes_on_in_one_answer.ensures.same_static;
  none = c.a_reader_goes_on_in_one_answer.ensures.none;
}) c.a_reader_goes_on_in_its_slice.ensures
