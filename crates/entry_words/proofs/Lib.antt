mod WordTests
