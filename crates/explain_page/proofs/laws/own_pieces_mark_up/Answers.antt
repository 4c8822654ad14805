use Rattle.explain_page.proofs.MarkedUp.{own_mark_up}
use Rattle.explain_page.proofs.laws.own_pieces_mark_up.Goals as goal

pub returns : goal.returns
returns g c = own_mark_up g.M.Markup.text
