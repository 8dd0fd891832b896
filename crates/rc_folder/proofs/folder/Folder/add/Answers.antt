-- The partitions' text is a table, and what is planned of it stands behind the others.
use Rattle.std.proofs.Common.{◌∙◌, ap, sym, subst}
use Rattle.rc_tfile.specs.Before.{text}
use Rattle.rc_tfile.specs.Stored.{with_file}
use Rattle.rc_tfile.specs.TableText.{whole_table, PartsFit}
use Rattle.rc_tfile.specs.laws.Standing.{text_is_a_table}
use Rattle.rc_folder.specs.Tabled.{Tabled}
use Rattle.rc_folder.proofs.folder.Folder.add.Goals as goal

pub write_table-requires-clause-fit : goal.write_table-requires-clause-fit
write_table-requires-clause-fit g c = subst (λ (f : Tabled). PartsFit f.schema c.args.parts.now) (sym c.self.view_is) c.requires.fit

pub returns-in-Ok-write_table-clause-added : goal.returns-in-Ok-write_table-clause-added
returns-in-Ok-write_table-clause-added g c = record {
  is_table = text_is_a_table c.args.self.now.schema c.args.parts.now c.requires.fit c.requires.mutations c.in-Ok.ensures.items;
  written = c.in-Ok-write_table.ensures.files ∙ ap (λ (f : Tabled). with_file (g.W.Store.files c.args.store.now) c.args.number (text (whole_table f.schema c.args.parts.now))) c.self.view_is;
  keeps = λ i. record { schema = (c.self.view_is i).schema; infos = c.in-Ok.ensures.known i };
}
