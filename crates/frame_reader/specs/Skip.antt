-- The numbers by which the reasons to skip a frame are known outside.
use Rattle.std.specs.Prelude.{ℕ}
use Rattle.frame_reader.specs.declared.skip.Skip.{Skip}
use Rattle.frame_reader.specs.declared.skip.Skip.TheVariants.{Short, OtherType, IpHeader, Fragment, OtherProtocol, UdpLength}

abbrev pub skip_number : Skip → ℕ
skip_number Short = 1
skip_number OtherType = 2
skip_number IpHeader = 3
skip_number Fragment = 4
skip_number OtherProtocol = 5
skip_number UdpLength = 6
