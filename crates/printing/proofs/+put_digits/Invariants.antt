-- `printing::put_digits`, which calls itself. The measure is how many digits may still be written.
use Rattle.printing.proofs.+put_digits.Given as goal

abbrev pub decreases-put_digits : goal.decreases-put_digits
decreases-put_digits l = l.most
