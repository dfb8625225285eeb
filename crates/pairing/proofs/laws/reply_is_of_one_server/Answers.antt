use Rattle.pairing.proofs.Servers.{reply_exact}
use Rattle.pairing.proofs.laws.reply_is_of_one_server.Goals as goal

pub returns : goal.returns
returns c = reply_exact
