use Rattle.pairing.proofs.Servers.{request_exact}
use Rattle.pairing.proofs.laws.request_is_to_one_server.Goals as goal

pub returns : goal.returns
returns c = request_exact
