use Rattle.pcap_reader.proofs.File.{broken_after, broken_read}
use Rattle.pcap_reader.proofs.laws.fault_is_the_first.Goals as goal

pub returns : goal.returns
returns c = λ bytes records fault are_bytes. (
  broken_after bytes records fault are_bytes,
  broken_read bytes records fault,
)
