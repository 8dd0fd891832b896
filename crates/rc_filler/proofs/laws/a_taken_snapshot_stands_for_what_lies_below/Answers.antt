use Rattle.rc_filler.proofs.Beginning.{TakenLaws, opened-stands, taken-stands}
use Rattle.rc_filler.proofs.laws.a_taken_snapshot_stands_for_what_lies_below.Goals as goal

pub returns : goal.returns
returns c =
    let laws : TakenLaws = record {
      given_at = c.one_more_snapshot_keeps_what_is_said.ensures.given;
      chain = c.one_more_snapshot_keeps_what_is_said.ensures.chain;
      form = c.one_more_snapshot_keeps_what_is_said.ensures.form;
    } in
    let opened = c.an_opened_chain_says_what_is_handed_in.ensures in record {
      taken = λ S schema below p m n id pin phase k writes limits small fit e cached attached sound ch on off rows same taken.
          taken-stands laws S schema limits small below p m n id pin phase k writes e cached attached sound ch on off rows fit same taken;
      opened = λ S schema writes old mid new id pin phase of_pin limits small fit made taken.
          opened-stands laws S schema limits small opened.form opened.chain c.a_fill_changes_the_newest_version_alone.ensures.opened c.what_the_source_says_may_be_filled.ensures.given writes old mid new id pin phase of_pin fit made taken;
    }
